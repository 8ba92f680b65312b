use Rattle.std.proofs.Common.{◌≡◌, ◌+◌, ◌≤◌, ◌<◌, ℕ, drop, length, slice_index}
use Rattle.module_builder.specs.Ordering.{position}
use Rattle.module_builder.proofs.ordering.places_in.Given as goal

abbrev pub invariant-loop-place : goal.invariant-loop-place
invariant-loop-place l = record {
  len : length l.places.items ≡ l.count;
  short : l.place ≤ length l.order;
  each : (row : ℕ) → row < l.count → slice_index l.places.items row ≡ l.place + position (drop l.place l.order) row;
}

abbrev pub decreases-loop-place : goal.decreases-loop-place
decreases-loop-place l = l.place
