use Rattle.certificate.proofs.StartLaws.{starts_marked}
use Rattle.certificate.proofs.starts.starts_of.Goals as goal

pub returns : goal.returns
returns c =
    starts_marked c.args.tables.now _ _ _ _ c.new-marks.ensures
    (rw c.deref.ensures.value at c.in_ok-mark_all.ensures)
    (rw c.deref-2.ensures.value at c.in_ok-mark_all-2.ensures)
    (rw c.deref-3.ensures.value at c.in_ok-mark_all-3.ensures)
