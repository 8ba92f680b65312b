use Rattle.std.proofs.Common.{◌≡◌, drop}
use Rattle.scalar_ranges.specs.Changes.{each}
use Rattle.scalar_ranges.specs.Lefts.{moved_mark}
use Rattle.scalar_ranges.proofs.deferred.move_marks.Given as goal

abbrev pub invariant-loop-number : goal.invariant-loop-number
invariant-loop-number l =
    each (moved_mark l.from l.to) (drop l.number-index l.numbers) l.lefts
    ≡ each (moved_mark l.from l.to) l.numbers l.fn.lefts
