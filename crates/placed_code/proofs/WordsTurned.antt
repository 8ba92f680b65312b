-- The bits of two words are joined in either order.
use Rattle.std.proofs.Common.{◌≡◌, ℤ, ap}
use Rattle.std.specs.Int.{w32, cast_unsigned, cast_signed}
use Rattle.std.proofs.lemmas.Nat as nat
use Rattle.word_arithmetic.specs.Word.{word_and, word_or, word_xor}

pub and_turned : (x y : ℤ) → word_and y x ≡ word_and x y
and_turned x y = ap (cast_signed w32) (nat.and_comm (cast_unsigned w32 y) (cast_unsigned w32 x))

pub or_turned : (x y : ℤ) → word_or y x ≡ word_or x y
or_turned x y = ap (cast_signed w32) (nat.or_comm (cast_unsigned w32 y) (cast_unsigned w32 x))

pub xor_turned : (x y : ℤ) → word_xor y x ≡ word_xor x y
xor_turned x y = ap (cast_signed w32) (nat.xor_comm (cast_unsigned w32 y) (cast_unsigned w32 x))
