use Rattle.std.proofs.Common.{◌≡◌, length, map, take}
use Rattle.scalar_ranges.specs.Changes.{meaning_after}
use Rattle.scalar_ranges.specs.ChangeViews.{slots_from, changes_from, afters_from}
use Rattle.scalar_ranges.proofs.SlotLoops.{wanted}
use Rattle.scalar_ranges.proofs.changes.conclude.Given as goal

abbrev pub invariant-loop-place : goal.invariant-loop-place
invariant-loop-place l = record {
  long : length l.changes ≡ length l.fn.changes;
  same : changes_from l.changes ≡ changes_from l.fn.changes;
  after : take l.place (afters_from l.changes)
      ≡ take l.place (wanted (map (meaning_after l.depth l.ended) (slots_from l.slots)) l.changes);
}
