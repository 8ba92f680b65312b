use Rattle.module_format.specs.Contents.{label_of, par_of}
use Rattle.par_rules.proofs.ends.leaves_agreed.Goals as goal

pub ends_below-requires : goal.ends_below-requires
ends_below-requires c =
    (c.label_rows_are_sound.ensures.at_offsets c.args.module.now (par_of c.args.par.now).successor
    (label_of c.in-Some.row.now) c.requires c.in-Some.ensures).apart
