use Rattle.std.proofs.Common.{◌≡◌, drop}
use Rattle.scalar_ranges.specs.Changes.{each}
use Rattle.scalar_ranges.specs.ChangeViews.{updated, slots_from}
use Rattle.scalar_ranges.proofs.changes.each_numbered.Given as goal

abbrev pub invariant-loop-number : goal.invariant-loop-number
invariant-loop-number l =
    each (updated l.update) (drop l.number-index l.numbers) (slots_from l.slots)
    ≡ each (updated l.update) l.numbers (slots_from l.fn.slots)
