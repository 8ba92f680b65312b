use Rattle.std.proofs.Common.{arith, ap, ◌∙◌, option_map}
use Rattle.std.specs.Prelude.{◌≤◌, length}
use Rattle.scalar_ranges.specs.BoundViews.{all_known}
use Rattle.scalar_ranges.specs.Bounds.{chain_bound}
use Rattle.scalar_ranges.specs.FrontViews.{seen_front}
use Rattle.scalar_ranges.specs.Scopes.{entries_of}
use Rattle.scalar_ranges.specs.Steps.{both}
use Rattle.scalar_ranges.proofs.FrontLoop.{next_front, next_bound, front_done}
use Rattle.scalar_ranges.proofs.fronts.front_in.Goals as goal

pub loop-place-preserved : goal.loop-place-preserved
loop-place-preserved c =
    let es = entries_of c.args.scope.now in
    let op = c.args.operator in
    let x = c.index-others-place.result in
    let before = c.loop-place.invariant in
    let next = c.combined-found-in-loop-place in
    let read = c.read_operand-in-loop-place in
    let bound = next.ensures.bounds
    ∙ ap (λ r. both (all_known c.loop-place.found.bound) r (chain_bound op)) read.ensures.bounds in
    record {
      found = next_bound es op c.args.first.now c.args.second.now x c.args.others.now c.loop-place.place
          (all_known c.loop-place.found.bound) (all_known next.result.bound) (omega arith) c.index-others-place.is
          before.found bound;
      front = next_front es op c.args.first.now c.args.second.now x c.args.others.now c.loop-place.place
          (all_known c.loop-place.found.bound) (all_known next.result.bound) (option_map seen_front c.loop-place.front)
          (option_map seen_front c.longer-front-in-loop-place.result) (omega arith) c.index-others-place.is
          before.found before.front bound c.longer-front-in-loop-place.ensures;
    }

pub returns : goal.returns
returns c =
    let done : length c.args.others.now ≤ c.loop-place.place = omega arith in
    front_done (entries_of c.args.scope.now) c.args.operator c.args.first.now c.args.second.now c.args.others.now
    c.loop-place.place (option_map seen_front c.loop-place.front) done c.loop-place.invariant.front
