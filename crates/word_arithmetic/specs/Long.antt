-- The long operations, which carry from word to word. Words are unsigned in them. From the T414 compiler
-- writer's guide.
use Rattle.std.specs.Prelude.{ℕ, ◌+◌, ◌-◌, ◌*◌, ◌/◌, ◌%◌, ◌^◌, if◌then◌else◌, nat_lt, ℤ, pos}
use Rattle.std.specs.Int.{w32, cast_signed, cast_unsigned}
use Rattle.word_arithmetic.specs.declared.long.LongResult.{LongResult}

-- a number below 2^64 as its low and its high word
abbrev pub two_words : ℕ → LongResult
two_words n = record { low = cast_signed w32 (n % 2 ^ 32); high = cast_signed w32 (n / 2 ^ 32) }

-- what is left of a number below 2^32, where up to 2^32 is taken from it: the borrow is 1 where that is more, and
-- lends 2^32
abbrev pub borrowing : ℕ → ℕ → LongResult
borrowing number taken = if nat_lt number taken
    then record { low = cast_signed w32 (number + 2 ^ 32 - taken); high = pos 1 }
    else record { low = cast_signed w32 (number - taken); high = pos 0 }

-- x and y and the lowest bit of the carry
abbrev pub long_sum : ℤ → ℤ → ℤ → LongResult
long_sum x y carry = two_words (cast_unsigned w32 x + cast_unsigned w32 y + cast_unsigned w32 carry % 2)

-- x less y and less the lowest bit of the borrow
abbrev pub long_difference : ℤ → ℤ → ℤ → LongResult
long_difference x y borrow = borrowing (cast_unsigned w32 x) (cast_unsigned w32 y + cast_unsigned w32 borrow % 2)

-- x times y and the word that is added
abbrev pub long_product : ℤ → ℤ → ℤ → LongResult
long_product x y added = two_words (cast_unsigned w32 x * cast_unsigned w32 y + cast_unsigned w32 added)
