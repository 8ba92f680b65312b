use Rattle.states.proofs.SpanSums.{sums-none, all-sizes}
use Rattle.states.proofs.sums.Sums.new.Goals as goal

pub returns : goal.returns
returns c = λ facts lo.
    all-sizes facts lo _ (sums-none facts lo 8 _ c.in_ok-new.ensures) (sums-none facts lo 512 _ c.in_ok-new-2.ensures)
    (sums-none facts lo 4096 _ c.in_ok-new-3.ensures)
