use Rattle.std.proofs.Common.{◌≡◌}
use Rattle.scalar_ranges.specs.LeftViews.{known_now}
use Rattle.scalar_ranges.proofs.deferred.Deferred.release_changed.Given as goal

abbrev pub invariant-loop-place : goal.invariant-loop-place
invariant-loop-place l = known_now l.self ≡ known_now l.fn.self
