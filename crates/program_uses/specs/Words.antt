-- What a word of 64 numbers has.
use Rattle.std.specs.Prelude.{◌≡◌, ℕ, ◌+◌, ◌*◌, ◌<◌, Bool, true, nat_eq}
use Rattle.std.specs.Int.{bit_at}

unfoldable pub has_bit : ℕ → ℕ → Bool
has_bit word place = nat_eq (bit_at word place) 1

-- a word of this block has a number below this one
abbrev pub HasBelow : (count block word : ℕ) → Type 0
HasBelow count block word = (p : ℕ) × (p < 64) × (64 * block + p < count) × (has_bit word p ≡ true)
