use Rattle.std.proofs.Common.{◌≡◌, ◌-◌, length, drop}
use Rattle.scalar_ranges.specs.Changes.{handed}
use Rattle.scalar_ranges.specs.ChangeViews.{slots_from, changes_from}
use Rattle.scalar_ranges.proofs.changes.hand_slots.Given as goal

abbrev pub invariant-loop-place : goal.invariant-loop-place
invariant-loop-place l =
    slots_from l.slots
    ≡ handed l.inner l.outer l.ended (drop (length l.changes - l.place) (changes_from l.changes))
    (slots_from l.fn.slots)
