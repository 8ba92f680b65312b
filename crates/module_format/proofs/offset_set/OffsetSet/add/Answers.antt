use Rattle.std.proofs.Common.{rules}
use Rattle.module_format.proofs.OffsetSetLaws.{has_added}
use Rattle.module_format.proofs.offset_set.OffsetSet.add.Goals as goal

pub returns : goal.returns
returns c at = rw (c.word_of.ensures, c.mask_of.ensures)
    (has_added c.args.self.now.words c.args.offset (search rules) at)
