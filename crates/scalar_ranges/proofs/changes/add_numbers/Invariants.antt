use Rattle.std.proofs.Common.{◌≡◌, ◌++◌, drop}
use Rattle.std.specs.Prelude.{vec_capacity}
use Rattle.scalar_ranges.specs.Changes.{numbers_of}
use Rattle.scalar_ranges.specs.ChangeViews.{changes_from}
use Rattle.scalar_ranges.proofs.changes.add_numbers.Given as goal

abbrev pub invariant-loop-change : goal.invariant-loop-change
invariant-loop-change l =
    let numbers = numbers_of (changes_from l.changes) in
    record {
      items : l.numbers.items ++ drop l.change-index numbers ≡ l.fn.numbers.items ++ numbers;
      capacity : vec_capacity l.numbers ≡ vec_capacity l.fn.numbers;
    }
