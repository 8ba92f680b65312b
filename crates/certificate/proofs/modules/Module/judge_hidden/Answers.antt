use Rattle.module_format.specs.Contents.{label_of}
use Rattle.certificate.proofs.EntryLaws.{label_rises}
use Rattle.certificate.proofs.modules.Module.judge_hidden.Goals as goal

pub say_of_hidden-requires : goal.say_of_hidden-requires
say_of_hidden-requires c =
    rw c.deref-in-Some-label_at.ensures.value
    (label_rises c.args.self.now c.in-Some.par.now.successor (label_of c.in-Some-label_at.label.now)
    c.tables.ensures.kept
    c.in-Some-label_at.ensures)
