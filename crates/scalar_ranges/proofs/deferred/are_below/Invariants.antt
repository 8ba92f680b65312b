use Rattle.std.proofs.Common.{drop}
use Rattle.scalar_ranges.specs.Lefts.{AreBelow}
use Rattle.scalar_ranges.proofs.deferred.are_below.Given as goal

abbrev pub invariant-loop-change : goal.invariant-loop-change
invariant-loop-change l = AreBelow l.count (drop l.change-index l.changes) → AreBelow l.count l.changes
