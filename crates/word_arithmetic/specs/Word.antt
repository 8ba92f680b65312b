-- What the T414 computes on words. A word has 32 bits and means its signed value here; "unsigned" says where it is read
-- as a number from 0 to 2^32 - 1. From the T414 compiler writer's guide, except what is marked as our own choice.
use Rattle.std.specs.Prelude.{◌≡◌, ◌↔◌, IsTrue, FitsSigned, ◌≤ℤ◌, ℕ, zero, ◌/◌, ◌^◌, Bool, Option, Some, None}
use Rattle.std.specs.Prelude.{if◌then◌else◌, nat_lt, ℤ, pos, negsuc, ◌+ℤ◌, ◌-ℤ◌, ◌*ℤ◌, int_div, int_rem, is_some}
use Rattle.std.specs.Int.{w32, cast_signed, cast_unsigned, int_wrapping_add, int_wrapping_sub, int_wrapping_mul}
use Rattle.std.specs.Int.{int_bit_and, int_bit_or, int_bit_xor, int_bit_not, int_shl}

-- MostNeg, and the greatest word
abbrev pub least_word : ℤ
least_word = negsuc 2147483647

abbrev pub greatest_word : ℤ
greatest_word = pos 2147483647

-- the number is one that a word represents, from -2^31 to 2^31 - 1
abbrev pub is_word : ℤ → Bool
is_word (pos n) = nat_lt n (2 ^ 31)
is_word (negsuc n) = nat_lt n (2 ^ 31)

-- the words are the numbers of 32 bits with a sign
abbrev pub WordsFit : Type 0
WordsFit = (z : ℤ) → IsTrue (is_word z) ↔ FitsSigned w32 z

-- they lie between the least and the greatest, both included
abbrev pub WordsLieBetween : Type 0
WordsLieBetween = (z : ℤ) → IsTrue (is_word z) ↔ ((least_word ≤ℤ z) × (z ≤ℤ greatest_word))

-- the result of a checked operation: None sets the error flag
abbrev pub checked : ℤ → Option ℤ
checked z = if is_word z then Some z else None

-- the checked result is there exactly where the number is a word, and it is that number
abbrev pub CheckedGivesWords : Type 0
CheckedGivesWords = (z v : ℤ) → (checked z ≡ Some v) ↔ (FitsSigned w32 z × (z ≡ v))

abbrev pub checked_sum : ℤ → ℤ → Option ℤ
checked_sum x y = checked (x +ℤ y)

abbrev pub checked_difference : ℤ → ℤ → Option ℤ
checked_difference x y = checked (x -ℤ y)

abbrev pub checked_product : ℤ → ℤ → Option ℤ
checked_product x y = checked (x *ℤ y)

-- towards zero
abbrev pub checked_quotient : ℤ → ℤ → Option ℤ
checked_quotient x (pos zero) = None
checked_quotient x y = checked (int_div x y)

-- with the sign of the dividend. MostNeg by -1 sets the error flag, as for the quotient (our own choice)
abbrev pub checked_remainder : ℤ → ℤ → Option ℤ
checked_remainder x y = if is_some (checked_quotient x y) then Some (int_rem x y) else None

-- modulo 2^32
abbrev pub word_sum : ℤ → ℤ → ℤ
word_sum x y = int_wrapping_add w32 x y

abbrev pub word_difference : ℤ → ℤ → ℤ
word_difference x y = int_wrapping_sub w32 x y

abbrev pub word_product : ℤ → ℤ → ℤ
word_product x y = int_wrapping_mul w32 x y

-- bit by bit
abbrev pub word_and : ℤ → ℤ → ℤ
word_and x y = int_bit_and w32 x y

abbrev pub word_or : ℤ → ℤ → ℤ
word_or x y = int_bit_or w32 x y

abbrev pub word_xor : ℤ → ℤ → ℤ
word_xor x y = int_bit_xor w32 x y

abbrev pub word_not : ℤ → ℤ
word_not x = int_bit_not w32 x

-- shifted by 0 to 31 bits, zeros coming in
abbrev pub shifted_left : ℤ → ℕ → ℤ
shifted_left x count = int_shl w32 x count

abbrev pub shifted_right : ℤ → ℕ → ℤ
shifted_right x count = cast_signed w32 (cast_unsigned w32 x / 2 ^ count)

-- x is below y, both unsigned
abbrev pub is_below_unsigned : ℤ → ℤ → Bool
is_below_unsigned x y = nat_lt (cast_unsigned w32 x) (cast_unsigned w32 y)

-- a truth value as a word
abbrev pub truth : Bool → ℤ
truth b = if b then pos 1 else pos 0
