use Rattle.module_format.specs.Contents.{label_of}
use Rattle.local_rules.proofs.loops.beginning.Goals as goal

pub returns-clause-apart : goal.returns-clause-apart
returns-clause-apart c =
    let e = c.in_ok-label_at.ensures in
    (c.label_rows_are_sound.ensures.at_offsets c.args.place.now.module.now c.target-to.result
    (label_of c.in_ok-label_at.field-0.now) c.requires
    e).apart
