use Rattle.std.proofs.Common.{◌≡◌, take, option_map}
use Rattle.scalar_ranges.specs.BoundViews.{all_known}
use Rattle.scalar_ranges.specs.Bounds.{bound_of_terms}
use Rattle.scalar_ranges.specs.Fronts.{front_in}
use Rattle.scalar_ranges.specs.FrontViews.{seen_front}
use Rattle.scalar_ranges.specs.Scopes.{entries_of}
use Rattle.scalar_ranges.proofs.FrontLoop.{so_far}
use Rattle.scalar_ranges.proofs.fronts.front_in.Given as goal

abbrev pub invariant-loop-place : goal.invariant-loop-place
invariant-loop-place l = record {
  found : all_known l.found.bound
      ≡ bound_of_terms (entries_of l.scope) l.fn.operator (so_far l.first l.second (take l.place l.others));
  front : option_map seen_front l.front
      ≡ front_in (entries_of l.scope) l.fn.operator (so_far l.first l.second (take l.place l.others));
}
