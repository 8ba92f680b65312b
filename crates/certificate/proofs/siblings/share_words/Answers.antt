use Rattle.module_format.specs.Order.{least_word}
use Rattle.module_format.specs.Contents.{branch_of}
use Rattle.certificate.proofs.RightLaws.{reads_order}
use Rattle.certificate.proofs.siblings.share_words.Goals as goal

pub have_common_word-requires-else-have_common_word-clause-others :
    goal.have_common_word-requires-else-have_common_word-clause-others
have_common_word-requires-else-have_common_word-clause-others c =
    let b = branch_of c.args.other.now in
    rw c.deref-else-have_common_word-2.ensures (reads_order b.writes least_word b.reads c.requires.other.reads)

pub have_common_word-requires-else-have_common_word-2-clause-intervals :
    goal.have_common_word-requires-else-have_common_word-2-clause-intervals
have_common_word-requires-else-have_common_word-2-clause-intervals c =
    let b = branch_of c.args.branch.now in
    rw c.deref-else-have_common_word-2-2.ensures (reads_order b.writes least_word b.reads c.requires.branch.reads)
