use Rattle.module_format.specs.Contents.{label_of}
use Rattle.facts.proofs.following.push_label.Goals as goal

pub become_label-requires-clause-row : goal.become_label-requires-clause-row
become_label-requires-clause-row c =
    c.label_rows_are_sound.ensures.at_offsets c.args.module.now c.args.to (label_of c.in-Some.row.now) c.requires.kept
    c.in-Some.ensures
