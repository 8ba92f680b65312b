use Rattle.std.proofs.Common.{◌≡◌, drop}
use Rattle.scalar_ranges.specs.ChangeViews.{known_afters, changes_from}
use Rattle.scalar_ranges.specs.TrackedViews.{tracked_of, known_by}
use Rattle.scalar_ranges.specs.Deferring.{StayWithout}
use Rattle.scalar_ranges.proofs.changes.Tracked.put_afters.Given as goal

abbrev pub invariant-loop-change : goal.invariant-loop-change
invariant-loop-change l =
    (known_afters (drop l.change-index l.changes) (known_by l.self) ≡ known_afters l.changes (known_by l.fn.self))
    × StayWithout (changes_from l.changes) (tracked_of l.fn.self).blocks (tracked_of l.self).blocks
