-- The word after one.
use Rattle.std.proofs.Common.{rules, arith, ℕ, ◌<◌, ◌≤◌, ℤ, pos, ◌+ℤ◌, ◌<ℤ◌, ◌≤ℤ◌, ◌^◌, SFits}
use Rattle.std.proofs.lemmas.Int.{ints}
use Rattle.std.specs.Int.{w32, w64}
use Rattle.module_format.specs.Order.{least_word}

-- the number of the next word fits in 64 bits, where that of a word is far below their bound
pub next-fits : (a : ℤ) → SFits w64 a → a <ℤ pos (2 ^ 40) → SFits w64 (a +ℤ pos 1)
next-fits a fits low = search (rules, arith, ints)

-- so does that of a word somewhat later
pub later-fits : (a : ℤ) (n : ℕ) → SFits w64 a → a <ℤ pos (2 ^ 40) → n ≤ 4096 → SFits w64 (a +ℤ pos n)
later-fits a n fits low few = search (rules, arith, ints)

-- the number of a word of a frame fits in 32 bits
pub frame-fits : (lo : ℤ) (index room : ℕ) → least_word ≤ℤ lo → (lo +ℤ pos room) ≤ℤ pos (2 ^ 31) → index < room
    → SFits w32 (lo +ℤ pos index)
frame-fits lo index room low high inside = search (rules, arith, ints)

-- and so in 64 bits
pub frame-fits-wide : (lo : ℤ) (index room : ℕ) → least_word ≤ℤ lo → (lo +ℤ pos room) ≤ℤ pos (2 ^ 31) → index < room
    → SFits w64 (lo +ℤ pos index)
frame-fits-wide lo index room low high inside = search (rules, arith, ints)
