use Rattle.states.proofs.SpanSums.{sums-none, all-sizes}
use Rattle.states.proofs.sums.Sums.clear.Goals as goal

pub returns : goal.returns
returns c = λ facts lo.
    all-sizes facts lo _ (sums-none facts lo 8 _ c.clear.ensures) (sums-none facts lo 512 _ c.clear-2.ensures)
    (sums-none facts lo 4096 _ c.clear-3.ensures)
