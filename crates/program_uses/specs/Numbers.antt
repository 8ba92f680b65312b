-- What a set of numbers has.
use Rattle.std.specs.Prelude.{◌≡◌, ℕ, zero, suc, ◌/◌, ◌%◌, ◌^◌, ◌<◌, Bool, true}
use Rattle.std.specs.Prelude.{nat_eq, if◌then◌else◌, List, [], ◌∷◌, filter}
use Rattle.std.specs.BTreeMap.{get}
use Rattle.std.specs.Option.{unwrap_or}
use Rattle.std.specs.Ordering.{nat_cmp}
use Rattle.program_uses.specs.declared.numbers.Numbers.{Numbers}
use Rattle.program_uses.specs.Words.{has_bit}

abbrev pub stored : Numbers → ℕ → ℕ
stored s block = unwrap_or (get nat_cmp s.words block) 0

-- the word of the 64 numbers of a block
abbrev pub word_at : Numbers → ℕ → ℕ
word_at s block = if nat_eq s.block block then s.word else stored s block

abbrev pub has_number : Numbers → ℕ → Bool
has_number s n = has_bit (word_at s (n / 64)) (n % 64)

-- two sets have a number in common that is below this one
abbrev pub Meets : ℕ → (s t : Numbers) → Type 0
Meets count s t = (n : ℕ) × (n < count) × (has_number s n ≡ true) × (has_number t n ≡ true)

unfoldable pub numbers_below : ℕ → List ℕ
numbers_below zero = []
numbers_below (suc n) = n ∷ numbers_below n

-- each number that a set has: a number is a usize
abbrev pub numbers_of : Numbers → List ℕ
numbers_of s = filter (has_number s) (numbers_below (2 ^ 64))
