-- The bytes of a word are those of its message, and those of a message make a word.
use Rattle.std.proofs.Common.{◌≡◌, ℕ, zero, suc, ◌+◌, ◌*◌, ◌-◌, ◌/◌, ◌%◌, ◌<◌, ◌≤◌, ◌⊎◌, inl, inr, ℤ, pos}
use Rattle.std.proofs.Common.{List, [], ◌∷◌, length, Option, Some, None, refl, sym, ap, subst, ◌∙◌, arith}
use Rattle.std.proofs.lemmas.Bool.{cases_lt}
use Rattle.std.proofs.lemmas.Int.{ints, of_z-to_z}
use Rattle.std.specs.Int.{w32, cast_signed, cast_unsigned}
use Rattle.module_format.specs.Order.{IsBytes}
use Rattle.machine_state.specs.Memory.{Memory, byte_at, word_at, word_from_bytes, with_word}
use Rattle.machine_state.proofs.Reading.{byte_at-with_word_other, length-with_word}
use Rattle.occam_parser.specs.declared.tree.ValueType.{ValueType}
use Rattle.occam_parser.specs.declared.tree.ValueType.TheVariants as value_type
use Rattle.program_meaning.specs.Links.{message_of, received}
use Rattle.placed_code.specs.Behaves.{Has, IsScheduling}
use Rattle.meant_lines.proofs.WrittenBytes.{message_there}
use Rattle.meant_actions.specs.Exchanging.{OnlySchedulingChanges}

-- ---- what comes in

module _ (p q r s : ℕ) (a : p < 256) (b : q < 256) (c : r < 256) (d : s < 256) where
  abbrev joined : ℕ
  joined = p % 256 + 256 * (q % 256) + 65536 * (r % 256) + 16777216 * (s % 256)

  joined_is : joined ≡ p + 256 * q + 65536 * r + 16777216 * s
  joined_is = omega (arith, a, b, c, d)

  digits : (n : ℕ) → n ≡ p + 256 * q + 65536 * r + 16777216 * s
      → n % 256 ∷ n / 256 % 256 ∷ n / 65536 % 256 ∷ n / 16777216 % 256 ∷ [] ≡ p ∷ q ∷ r ∷ s ∷ []
  digits n is =
      let first : n % 256 ≡ p = omega (arith, is, a) in
      let second : n / 256 % 256 ≡ q = omega (arith, is, a, b) in
      let third : n / 65536 % 256 ≡ r = omega (arith, is, a, b, c) in
      let fourth : n / 16777216 % 256 ≡ s = omega (arith, is, a, b, c, d) in
      λ i. first i ∷ second i ∷ third i ∷ fourth i ∷ []

  four_back : message_of value_type.Int (received value_type.Int (p ∷ q ∷ r ∷ s ∷ [])) ≡ p ∷ q ∷ r ∷ s ∷ []
  four_back =
      digits (cast_unsigned w32 (cast_signed w32 joined))
      (of_z-to_z w32 joined (omega (arith, joined_is, a, b, c, d)) ∙ joined_is)

-- the bytes of a word that was received are those that came
pub sent_back : (bytes : List ℕ) → length bytes ≡ 4 → IsBytes bytes
    → message_of value_type.Int (received value_type.Int bytes) ≡ bytes
sent_back [] long all = absurd (cc)
sent_back (p ∷ []) long all = absurd (cc)
sent_back (p ∷ q ∷ []) long all = absurd (cc)
sent_back (p ∷ q ∷ r ∷ []) long all = absurd (cc)
sent_back (p ∷ q ∷ r ∷ s ∷ []) long all = four_back p q r s (all 0) (all 1) (all 2) (all 3)
sent_back (p ∷ q ∷ r ∷ s ∷ t ∷ bytes) long all = absurd (cc)

-- ---- where a word is written while scheduling takes its own

agree : (a b : Memory) (place i : ℕ) (v : ℤ) → i < 4 → Has a place (message_of value_type.Int v)
    → Has b place (message_of value_type.Int v) → byte_at a (place + i) ≡ byte_at b (place + i)
agree a b place zero v less first second = first 0 _ refl ∙ sym (second 0 _ refl)
agree a b place (suc zero) v less first second = first 1 _ refl ∙ sym (second 1 _ refl)
agree a b place (suc (suc zero)) v less first second = first 2 _ refl ∙ sym (second 2 _ refl)
agree a b place (suc (suc (suc zero))) v less first second = first 3 _ refl ∙ sym (second 3 _ refl)
agree a b place (suc (suc (suc (suc i)))) v less first second = absurd (omega (arith, less))

pub word_over : (depth place : ℕ) (v : ℤ) (old new : Memory) → place + 4 ≤ length old → length new ≡ length old
    → Has new place (message_of value_type.Int v)
    → ((other : ℕ) → (IsScheduling depth other → ⊥) → (other < place) ⊎ (place + 4 ≤ other)
    → byte_at new other ≡ byte_at old other)
    → OnlySchedulingChanges depth (with_word old place (Some v)) new
word_over depth place v old new inside long has same = record {
  size = long ∙ sym (length-with_word old place (Some v));
  same = λ other apart. by other apart (cases_lt other place) (cases_lt other (place + 4));
}
  where
    by : (other : ℕ) → (IsScheduling depth other → ⊥) → (other < place) ⊎ (place ≤ other)
        → (other < place + 4) ⊎ (place + 4 ≤ other) → byte_at new other ≡ byte_at (with_word old place (Some v)) other
    by other apart (inl below) upper =
        same other apart (inl below) ∙ sym (byte_at-with_word_other old place other (Some v) (inl below))
    by other apart (inr low) (inr above) =
        same other apart (inr above) ∙ sym (byte_at-with_word_other old place other (Some v) (inr above))
    by other apart (inr low) (inl within) =
        let at : place + (other - place) ≡ other = omega (arith, low) in
        subst (λ (x : ℕ). byte_at new x ≡ byte_at (with_word old place (Some v)) x) at
        (agree new (with_word old place (Some v)) place (other - place) v (omega (arith, low, within)) has
        (message_there old place v inside value_type.Int))

-- ---- messages that are there

four_there : (m : Memory) (place p q r s : ℕ) → byte_at m place ≡ Some p → byte_at m (place + 1) ≡ Some q
    → byte_at m (place + 2) ≡ Some r → byte_at m (place + 3) ≡ Some s → Has m place (p ∷ q ∷ r ∷ s ∷ [])
four_there m place p q r s first second third fourth zero byte is =
    let at : place + 0 ≡ place = omega arith in
    ap (byte_at m) at ∙ first ∙ is
four_there m place p q r s first second third fourth (suc zero) byte is = second ∙ is
four_there m place p q r s first second third fourth (suc (suc zero)) byte is = third ∙ is
four_there m place p q r s first second third fourth (suc (suc (suc zero))) byte is = fourth ∙ is
four_there m place p q r s first second third fourth (suc (suc (suc (suc i)))) byte is = absurd (cc)

lowest_there : (m : Memory) (place : ℕ) (v : ℤ) → Has m place (message_of value_type.Int v)
    → Has m place (message_of value_type.Byte v)
lowest_there m place v has zero byte is = has zero byte is
lowest_there m place v has (suc i) byte is = absurd (cc)

unsigned_is : (v : ℤ) (n : ℕ) → n < 4294967296 → Some (cast_signed w32 n) ≡ Some v → cast_unsigned w32 v ≡ n
unsigned_is v n few is =
    let same : v ≡ cast_signed w32 n = cc (is) in
    ap (cast_unsigned w32) same ∙ of_z-to_z w32 n (omega (arith, few))

module _ (m : Memory) (place : ℕ) (v : ℤ)
    (small : (i byte : ℕ) → i < 4 → byte_at m (place + i) ≡ Some byte → byte < 256) where
  word_by : (p q r s : Option ℕ) → byte_at m place ≡ p → byte_at m (place + 1) ≡ q → byte_at m (place + 2) ≡ r
      → byte_at m (place + 3) ≡ s → word_from_bytes p q r s ≡ Some v → Has m place (message_of value_type.Int v)
  word_by (Some p) (Some q) (Some r) (Some s) first second third fourth is =
      let at : place + 0 ≡ place = omega arith in
      let a : p < 256 = small 0 p (omega arith) (ap (byte_at m) at ∙ first) in
      let b : q < 256 = small 1 q (omega arith) second in
      let c : r < 256 = small 2 r (omega arith) third in
      let d : s < 256 = small 3 s (omega arith) fourth in
      let number : cast_unsigned w32 v ≡ p + 256 * q + 65536 * r + 16777216 * s =
      unsigned_is v (p + 256 * q + 65536 * r + 16777216 * s) (omega (arith, a, b, c, d)) is in
      subst (λ (bytes : List ℕ). Has m place bytes) (sym (digits p q r s a b c d (cast_unsigned w32 v) number))
      (four_there m place p q r s first second third fourth)
  word_by None q r s first second third fourth is = absurd (cc)
  word_by (Some p) None r s first second third fourth is = absurd (cc)
  word_by (Some p) (Some q) None s first second third fourth is = absurd (cc)
  word_by (Some p) (Some q) (Some r) None first second third fourth is = absurd (cc)

  word_has : word_at m place ≡ Some v → Has m place (message_of value_type.Int v)
  unfolding word_at
  word_has is =
      word_by (byte_at m place) (byte_at m (place + 1)) (byte_at m (place + 2)) (byte_at m (place + 3)) refl refl refl
      refl is

  -- so the message of a word is there
  pub message_in_word : (type : ValueType) → word_at m place ≡ Some v → Has m place (message_of type v)
  message_in_word value_type.Int is = word_has is
  message_in_word value_type.Byte is = lowest_there m place v (word_has is)

-- and that of a byte
pub message_in_byte : (m : Memory) (place b : ℕ) → b < 256 → byte_at m place ≡ Some b
    → Has m place (message_of value_type.Byte (pos b))
message_in_byte m place b small there zero byte is =
    let at : place + 0 ≡ place = omega arith in
    let lowest : cast_unsigned w32 (pos b) % 256 ≡ b = omega (arith, ints, small) in
    ap (byte_at m) at ∙ there ∙ ap Some (sym lowest) ∙ is
message_in_byte m place b small there (suc i) byte is = absurd (cc)
