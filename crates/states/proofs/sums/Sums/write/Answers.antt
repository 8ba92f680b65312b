use Rattle.std.proofs.Common.{ap, ◌/◌}
use Rattle.states.specs.declared.sums.Size.TheVariants.{Group, Page, Zone}
use Rattle.states.proofs.SpanSums.{sums-forget, all-sizes, of-size}
use Rattle.states.proofs.sums.Sums.write.Goals as goal

pub returns : goal.returns
returns c = λ facts new lo right same.
    let index = c.args.index in
    let old = c.args.self.now in
    all-sizes new lo _
    (sums-forget facts new lo 8 (index / 8) _ _ (of-size facts lo old Group right)
    (λ j d. same j (λ h. d (ap (λ k. k / 8) h))) c.forget.ensures)
    (sums-forget facts new lo 512 (index / 512) _ _ (of-size facts lo old Page right)
    (λ j d. same j (λ h. d (ap (λ k. k / 512) h))) c.forget-2.ensures)
    (sums-forget facts new lo 4096 (index / 4096) _ _ (of-size facts lo old Zone right)
    (λ j d. same j (λ h. d (ap (λ k. k / 4096) h))) c.forget-3.ensures)
