use Rattle.std.proofs.Common.{◌≡◌, drop}
use Rattle.scalar_ranges.specs.Changes.{numbers_of, each}
use Rattle.scalar_ranges.specs.ChangeViews.{updated, slots_from, changes_from}
use Rattle.scalar_ranges.proofs.changes.each_listed.Given as goal

abbrev pub invariant-loop-change : goal.invariant-loop-change
invariant-loop-change l =
    let numbers = numbers_of (changes_from l.changes) in
    each (updated l.update) (drop l.change-index numbers) (slots_from l.slots)
    ≡ each (updated l.update) numbers (slots_from l.fn.slots)
