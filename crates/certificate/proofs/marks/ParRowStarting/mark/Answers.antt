use Rattle.module_format.proofs.Loop.{ok_weaker}
use Rattle.certificate.proofs.StartLaws.{adds_par}
use Rattle.certificate.proofs.marks.ParRowStarting.mark.Goals as goal

pub returns : goal.returns
returns c = ok_weaker c.mark_all.result c.mark_all.ensures (λ x b.
    adds_par _ _ _ _ _ _ c.deref.ensures.value c.in_ok-add.ensures b)
