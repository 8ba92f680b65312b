use Rattle.std.proofs.Common.{drop}
use Rattle.scalar_ranges.specs.ChangeViews.{changes_from}
use Rattle.scalar_ranges.specs.Deferring.{AreNone}
use Rattle.scalar_ranges.specs.LeftViews.{left_by}
use Rattle.scalar_ranges.proofs.deferred.Deferred.are_released.Given as goal

abbrev pub invariant-loop-change : goal.invariant-loop-change
invariant-loop-change l =
    AreNone (left_by l.self) (changes_from (drop l.change-index l.changes))
    → AreNone (left_by l.self) (changes_from l.changes)
