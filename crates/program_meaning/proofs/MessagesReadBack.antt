-- What is received is a number of the type, and what is sent is received again.
use Rattle.std.proofs.Common.{◌≡◌, ℕ, ◌+◌, ◌*◌, ◌/◌, ◌%◌, ◌^◌, ◌<◌, ℤ, pos, negsuc, [], ◌∷◌, length, refl, ap, arith}
use Rattle.std.proofs.Common.{◌∙◌}
use Rattle.std.proofs.Common.{FitsSigned}
use Rattle.std.proofs.lemmas.Int.{ints, to_z-of_z}
use Rattle.std.specs.Int.{w32, cast_signed, cast_unsigned}
use Rattle.word_arithmetic.specs.Range.{InRange, bytes}
use Rattle.word_arithmetic.proofs.BitLaws.{cast_fits, bits_below}
use Rattle.occam_parser.specs.declared.tree.ValueType.{ValueType}
use Rattle.occam_parser.specs.declared.tree.ValueType.TheVariants as value_type
use Rattle.program_meaning.specs.Links.{received, message_length, message_of}
use Rattle.program_meaning.specs.TypedValues.{IsOfType}
use Rattle.program_meaning.specs.Messages.{ReceivedIsOfType, MessagesReadBack}

-- ---- types

four_below : (p q r s : ℕ) → p % 256 + 256 * (q % 256) + 65536 * (r % 256) + 16777216 * (s % 256) < 2 ^ 32
four_below p q r s = omega arith

one_of_bytes : (b : ℕ) → InRange bytes (pos (b % 256))
one_of_bytes b = record { from_lo = omega (arith, ints); to_hi = omega (arith, ints) }

zero_fits : (type : ValueType) → IsOfType type (pos 0)
zero_fits value_type.Int = omega (arith, ints)
zero_fits value_type.Byte = record { from_lo = omega (arith, ints); to_hi = omega (arith, ints) }

pub received_is_of_type : ReceivedIsOfType
received_is_of_type value_type.Int (p ∷ q ∷ r ∷ s ∷ []) =
    cast_fits (p % 256 + 256 * (q % 256) + 65536 * (r % 256) + 16777216 * (s % 256)) (four_below p q r s)
received_is_of_type value_type.Byte (b ∷ []) = one_of_bytes b
received_is_of_type type bytes = zero_fits type

-- ---- back again

-- the bytes of a number below 2^32 are that number
four_join : (n : ℕ) → n < 2 ^ 32
    → n % 256 % 256 + 256 * (n / 256 % 256 % 256) + 65536 * (n / 65536 % 256 % 256)
    + 16777216 * (n / 16777216 % 256 % 256) ≡ n
four_join n h = omega (arith, h)

-- the bits of a word are that word
word_again : (v : ℤ) → FitsSigned w32 v → cast_signed w32 (cast_unsigned w32 v) ≡ v
word_again v f = to_z-of_z w32 v f

byte_again : (v : ℤ) → InRange bytes v → pos (cast_unsigned w32 v % 256 % 256) ≡ v
byte_again (pos n) m = let high = m.to_hi in omega (arith, ints, high)
byte_again (negsuc n) m = let low = m.from_lo in absurd (omega (arith, ints, low))

read_back : (type : ValueType) (v : ℤ) → IsOfType type v → received type (message_of type v) ≡ v
read_back value_type.Int v f =
    ap (cast_signed w32) (four_join (cast_unsigned w32 v) (bits_below v f)) ∙ word_again v f
read_back value_type.Byte v f = byte_again v f

pub messages_read_back : MessagesReadBack
messages_read_back = record {
  long = λ type v. elim type as (λ type. length (message_of type v) ≡ message_length type) [
    | value_type.Int ↦ refl
    | value_type.Byte ↦ refl
  ];
  back = read_back;
}

pub ruleset messages = (received_is_of_type, messages_read_back)
