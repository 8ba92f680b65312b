use Rattle.std.proofs.Common.{◌≡◌, ℕ, true, None, take}
use Rattle.scalar_ranges.specs.Moves.{is_one_of}
use Rattle.scalar_ranges.specs.Lefts.{left_at, numbers_in}
use Rattle.scalar_ranges.specs.LeftViews.{known_now}
use Rattle.scalar_ranges.proofs.deferred.Deferred.settle.Given as goal

abbrev pub invariant-loop-place : goal.invariant-loop-place
invariant-loop-place l =
    (known_now l.self ≡ known_now l.fn.self) × (l.self.listed.items ≡ l.fn.self.listed.items)
    × (l.self.mark ≡ l.fn.self.mark) × (l.self.stage ≡ l.fn.self.stage)
    × ((i : ℕ) → is_one_of (numbers_in (take l.place l.fn.self.listed.items)) i ≡ true
    → left_at l.self.mark l.self.lefts.items i ≡ None)
