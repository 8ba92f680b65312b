use Rattle.std.proofs.Common.{ap, ◌∙◌}
use Rattle.module_format.specs.Contents.{Contents, label_of}
use Rattle.states.specs.Remembered.{numbered_label}
use Rattle.states.proofs.frame.Frame.is_plain.Goals as goal

pub returns-then-has : goal.returns-then-has
returns-then-has c = λ _.
    c.has.ensures c.if-has.true (label_of c.args.row.now)
    (ap (λ (m : Contents). numbered_label m c.args.label) c.args.self.now.alike ∙ c.requires)
