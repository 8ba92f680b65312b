use Rattle.module_format.specs.Contents.{label_of}
use Rattle.alternation_rules.proofs.ends.label_below.Goals as goal

pub cost_below-requires : goal.cost_below-requires
cost_below-requires c =
    (c.label_rows_are_sound.ensures.at_offsets c.args.place.now.module.now c.args.to (label_of c.in-Some.row.now)
    c.requires c.in-Some.ensures).apart
