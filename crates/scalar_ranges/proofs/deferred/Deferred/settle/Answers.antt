use Rattle.std.proofs.Common.{◌<◌, ap, sym, refl, ◌∙◌, arith, get_or, length, take}
use Rattle.scalar_ranges.specs.Moves.{is_one_of}
use Rattle.scalar_ranges.specs.Lefts.{left_at, numbers_in}
use Rattle.scalar_ranges.specs.TrackedViews.{known_by}
use Rattle.scalar_ranges.proofs.LeftLists.{settle_step, settled_now}
use Rattle.scalar_ranges.proofs.deferred.Deferred.settle.Goals as goal

pub loop-place-preserved : goal.loop-place-preserved
loop-place-preserved c =
    let so_far = c.loop-place.invariant in
    let before = c.loop-place.self in
    let now = c.release.new.self in
    let cs = c.args.self.now.listed.items in
    let place = c.loop-place.place in
    let less : place < length cs = omega arith in (
      c.release.ensures.known ∙ so_far.0,
      c.release.ensures.listed ∙ so_far.1,
      c.release.ensures.mark ∙ so_far.2,
      c.release.ensures.stage ∙ so_far.3,
      λ i listed. ap (λ m. left_at m now.lefts.items i) c.release.ensures.mark
          ∙ settle_step before.mark place cs c.index.result.now before.lefts.items now.lefts.items before.kept.0 less
          (c.index.ensures ∙ ap (λ ks. get_or ks place c.index.result.now) so_far.1)
          c.release.ensures.lefts so_far.4 i listed,
    )

pub returns : goal.returns
returns c =
    let so_far = c.loop-place.invariant in
    let now = c.loop-place.self in
    let place = c.loop-place.place in
    let long = ap length so_far.1 in
    record {
      known = settled_now now.stage now.mark place now.listed.items now.lefts.items (known_by now.tracked) now.kept
          (omega arith)
          (λ i listed. so_far.4 i (ap (λ cs. is_one_of (numbers_in (take place cs)) i) (sym so_far.1) ∙ listed))
          ∙ so_far.0;
      stage = refl;
    }
