use Rattle.std.proofs.Common.{◌/◌, refl}
use Rattle.states.specs.declared.sums.Size.TheVariants.{Group, Page, Zone}
use Rattle.states.specs.Blocks.{block_words, first_of}
use Rattle.states.specs.Frames.{with_span}
use Rattle.states.proofs.SpanSums.{sums-forget, groups-left, left-beyond, all-sizes, of-size}
use Rattle.states.proofs.sums.Sums.leave.Goals as goal

pub returns : goal.returns
unfolding block_words
returns c = λ facts lo right.
    let block = c.args.block in
    let old = c.args.self.now in
    let new = with_span (first_of lo block) block_words c.args.leaving facts in
    all-sizes new lo _
    (groups-left facts lo block c.args.leaving _ _ (of-size facts lo old Group right) c.leave_eight.ensures.inside
    c.leave_eight.ensures.others)
    (sums-forget facts new lo 512 (block / 8) _ _ (of-size facts lo old Page right)
    (λ j other. left-beyond facts lo 8 512 block j c.args.leaving refl other) c.forget.ensures)
    (sums-forget facts new lo 4096 (block / 64) _ _ (of-size facts lo old Zone right)
    (λ j other. left-beyond facts lo 64 4096 block j c.args.leaving refl other) c.forget-2.ensures)
