-- The bytes of a word that was written are those of its message.
use Rattle.std.proofs.Common.{◌≡◌, ℕ, zero, suc, ◌+◌, ◌/◌, ◌%◌, ◌<◌, ◌≤◌, ℤ, length, Option, Some, FitsSigned}
use Rattle.std.proofs.Common.{ap, ◌∙◌, arith}
use Rattle.std.specs.Int.{w32, cast_unsigned}
use Rattle.machine_state.specs.Memory.{Memory, byte_at, with_byte, with_word, byte_worth}
use Rattle.machine_state.proofs.Reading.{byte_at-with_byte, byte_at-with_byte_other, length-with_byte}
use Rattle.machine_state.proofs.Reading.{word_at-with_word}
use Rattle.occam_parser.specs.declared.tree.ValueType.{ValueType}
use Rattle.occam_parser.specs.declared.tree.ValueType.TheVariants as value_type
use Rattle.program_meaning.specs.Links.{message_of}
use Rattle.placed_code.specs.Behaves.{Has}
use Rattle.placed_code.specs.StraightPieces.{word_place}
use Rattle.meant_lines.specs.Words.{with_frame_word}
use Rattle.meant_lines.specs.Carrying.{HoldsWord}

rest_is_small : (n : ℕ) → n % 256 < 256
rest_is_small n = omega arith

byte_below : (worth byte : ℕ) (v : ℤ) {o : Option ℕ} → o ≡ Some (byte_worth worth v) → o ≡ Some byte → byte < 256
byte_below worth byte v there is =
    let same : byte_worth worth v ≡ byte = cc (there, is) in
    let small = rest_is_small (cast_unsigned w32 v / worth) in
    omega (arith, same, small)

module _ (m : Memory) (place : ℕ) (v : ℤ) (inside : place + 4 ≤ length m) where
  abbrev one : Memory
  one = with_byte m place (Some (byte_worth 1 v))

  abbrev two : Memory
  two = with_byte one (place + 1) (Some (byte_worth 256 v))

  abbrev three : Memory
  three = with_byte two (place + 2) (Some (byte_worth 65536 v))

  size_one : length one ≡ length m
  size_one = length-with_byte m place (Some (byte_worth 1 v))

  size_two : length two ≡ length m
  size_two = length-with_byte one (place + 1) (Some (byte_worth 256 v)) ∙ size_one

  size_three : length three ≡ length m
  size_three = length-with_byte two (place + 2) (Some (byte_worth 65536 v)) ∙ size_two

  pub first_byte : byte_at (with_word m place (Some v)) (place + 0) ≡ Some (byte_worth 1 v)
  unfolding with_word
  first_byte =
      let at : place + 0 ≡ place = omega arith in
      ap (byte_at (with_byte three (place + 3) (Some (byte_worth 16777216 v)))) at
      ∙ byte_at-with_byte_other three (place + 3) place (Some (byte_worth 16777216 v)) (omega arith)
      ∙ byte_at-with_byte_other two (place + 2) place (Some (byte_worth 65536 v)) (omega arith)
      ∙ byte_at-with_byte_other one (place + 1) place (Some (byte_worth 256 v)) (omega arith)
      ∙ byte_at-with_byte m place (Some (byte_worth 1 v)) (omega (arith, inside))

  pub second_byte : byte_at (with_word m place (Some v)) (place + 1) ≡ Some (byte_worth 256 v)
  unfolding with_word
  second_byte =
      byte_at-with_byte_other three (place + 3) (place + 1) (Some (byte_worth 16777216 v)) (omega arith)
      ∙ byte_at-with_byte_other two (place + 2) (place + 1) (Some (byte_worth 65536 v)) (omega arith)
      ∙ byte_at-with_byte one (place + 1) (Some (byte_worth 256 v)) (omega (arith, inside, size_one))

  pub third_byte : byte_at (with_word m place (Some v)) (place + 2) ≡ Some (byte_worth 65536 v)
  unfolding with_word
  third_byte =
      byte_at-with_byte_other three (place + 3) (place + 2) (Some (byte_worth 16777216 v)) (omega arith)
      ∙ byte_at-with_byte two (place + 2) (Some (byte_worth 65536 v)) (omega (arith, inside, size_two))

  pub fourth_byte : byte_at (with_word m place (Some v)) (place + 3) ≡ Some (byte_worth 16777216 v)
  unfolding with_word
  fourth_byte =
      byte_at-with_byte three (place + 3) (Some (byte_worth 16777216 v)) (omega (arith, inside, size_three))

  lowest : Some (byte_worth 1 v) ≡ Some (cast_unsigned w32 v % 256)
  lowest =
      let same : cast_unsigned w32 v / 1 ≡ cast_unsigned w32 v = omega arith in
      ap (λ (n : ℕ). Some (n % 256)) same

  -- so the message of a number is where the number was written
  pub message_there : (type : ValueType) → Has (with_word m place (Some v)) place (message_of type v)
  message_there value_type.Int zero byte is = first_byte ∙ lowest ∙ is
  message_there value_type.Int (suc zero) byte is = second_byte ∙ is
  message_there value_type.Int (suc (suc zero)) byte is = third_byte ∙ is
  message_there value_type.Int (suc (suc (suc zero))) byte is = fourth_byte ∙ is
  message_there value_type.Int (suc (suc (suc (suc i)))) byte is = absurd (cc)
  message_there value_type.Byte zero byte is = first_byte ∙ lowest ∙ is
  message_there value_type.Byte (suc i) byte is = absurd (cc)

  -- and its bytes are below 256
  written_below : (i byte : ℕ) → i < 4 → byte_at (with_word m place (Some v)) (place + i) ≡ Some byte → byte < 256
  written_below zero byte less is = byte_below 1 byte v first_byte is
  written_below (suc zero) byte less is = byte_below 256 byte v second_byte is
  written_below (suc (suc zero)) byte less is = byte_below 65536 byte v third_byte is
  written_below (suc (suc (suc zero))) byte less is = byte_below 16777216 byte v fourth_byte is
  written_below (suc (suc (suc (suc i)))) byte less is = absurd (omega (arith, less))

-- So the word holds the number.
pub written_holds : (m : Memory) (word : ℕ) (v : ℤ) → word_place word + 4 ≤ length m → FitsSigned w32 v
    → HoldsWord (with_frame_word word v m) word v
written_holds m word v inside fits = record {
  is = word_at-with_word m (word_place word) v inside fits;
  bytes = written_below m (word_place word) v inside;
}
