-- Addresses that words of the frame hold, and the places in memory that they name.
use Rattle.std.proofs.Common.{◌≡◌, ℕ, zero, suc, ◌+◌, ◌-◌, ◌*◌, ◌%◌, ◌≤◌, ◌<◌, ℤ, pos, negsuc, ◌+ℤ◌, ◌-ℤ◌, ◌*ℤ◌, ◌≤ℤ◌}
use Rattle.std.proofs.Common.{◌<ℤ◌, FitsSigned, Bool, true, false, inl, inr, length, Option, Some, None, sym, ap, ◌∙◌}
use Rattle.std.proofs.Common.{subst, arith}
use Rattle.std.specs.Int.{w32, int_wrap, cast_unsigned, cast_signed}
use Rattle.std.specs.Prelude.{nat_abs}
use Rattle.std.proofs.lemmas.Bool.{cases_lt, cases_eq, and_parts}
use Rattle.std.proofs.lemmas.Bool.Decides.{eqb_tells}
use Rattle.std.proofs.lemmas.List.{get_or_past}
use Rattle.std.proofs.lemmas.Int.{ints, of_z-to_z, to_z-of_z}
use Rattle.module_format.specs.Order.{is_stepped}
use Rattle.machine_state.specs.Memory.{Memory, place_of, data_start, byte_at, word_at, word_from_bytes}
use Rattle.rulings.specs.Meaning.{word_of}
use Rattle.certificate.specs.Words.{all_words}
use Rattle.rulings.specs.Reach.{word_of_byte, words_touched}

-- ---- words as addresses

-- a natural number as a word, and back as an address
pub address_of_word : (n : ℕ) → cast_unsigned w32 (word_of (pos n)) ≡ n % 4294967296
unfolding int_wrap
address_of_word n = of_z-to_z w32 (n % 4294967296) (omega arith)

-- an address that a place has
pub place_of_address : (z : ℤ) (place : ℕ) → z ≡ pos (data_start + place) → place ≤ 2147483391
    → place_of (cast_unsigned w32 (word_of z)) ≡ place
unfolding place_of
place_of_address z place is low =
    ap (λ (y : ℤ). (cast_unsigned w32 (word_of y) + 2147483392) % 4294967296) is
    ∙ ap (λ (n : ℕ). (n + 2147483392) % 4294967296) (address_of_word (data_start + place))
    ∙ omega arith

-- `n` bytes after an address
pub place_behind : (address n : ℕ) → place_of address + n < 4294967296
    → place_of ((address + n) % 4294967296) ≡ place_of address + n
unfolding place_of
place_behind address n low = omega arith

-- a word that is read as an address is that word
pub word_of_address : (x : ℤ) → FitsSigned w32 x → x ≡ word_of (pos (cast_unsigned w32 x))
unfolding int_wrap
word_of_address x fits =
    sym (ap (λ (n : ℕ). cast_signed w32 n) (below (cast_unsigned w32 x) (omega (arith, ints))) ∙ to_z-of_z w32 x fits)
  where
    below : (n : ℕ) → n < 4294967296 → n % 4294967296 ≡ n
    below n low = omega arith

-- ---- words of memory

-- a word that is defined lies in memory
pub defined_inside : (memory : Memory) (place : ℕ) (x : ℤ) → word_at memory place ≡ Some x → place + 4 ≤ length memory
unfolding word_at
defined_inside memory place x is = elim (cases_lt (place + 3) (length memory)) [
  | inl low ↦ omega arith
  | inr high ↦ absurd (last (byte_at memory place) (byte_at memory (place + 1)) (byte_at memory (place + 2))
      (byte_at memory (place + 3)) (get_or_past memory (place + 3) None high) is)
]
  where
    last : (p q r s : Option ℕ) → s ≡ None → word_from_bytes p q r s ≡ Some x → ⊥
    last None q r s e h = cc
    last (Some p) None r s e h = cc
    last (Some p) (Some q) None s e h = cc
    last (Some p) (Some q) (Some r) None e h = cc
    last (Some p) (Some q) (Some r) (Some s) e h = cc

-- ---- offsets

-- an offset that is a multiple of four is that of its word
pub offset_of_word : (offset : ℤ) → is_stepped offset ≡ true → offset ≡ pos 4 *ℤ word_of_byte offset
offset_of_word (pos n) stepped = elim (eqb_tells (n % 4) 0) [
  | inl e ↦ let zero' : n % 4 ≡ 0 = e.1 in omega (arith, ints)
  | inr e ↦ let no' : false ≡ true = sym e.0 ∙ stepped in absurd (cc)
]
offset_of_word (negsuc n) stepped = elim (eqb_tells (suc n % 4) 0) [
  | inl e ↦ let zero' : suc n % 4 ≡ 0 = e.1 in omega (arith, ints)
  | inr e ↦ let no' : false ≡ true = sym e.0 ∙ stepped in absurd (cc)
]

-- the word in which a byte lies, by its bounds
pub word_of_byte_is : (z word : ℤ) → (pos 4 *ℤ word) ≤ℤ z → z <ℤ (pos 4 *ℤ word +ℤ pos 4) → word_of_byte z ≡ word
word_of_byte_is (pos n) (pos k) low high = omega (arith, ints)
word_of_byte_is (pos n) (negsuc k) low high = absurd (omega (arith, ints))
word_of_byte_is (negsuc n) (pos k) low high = absurd (omega (arith, ints))
word_of_byte_is (negsuc n) (negsuc k) low high = omega (arith, ints)

-- the first byte of a word
pub word_of_offset : (word : ℤ) → word_of_byte (pos 4 *ℤ word) ≡ word
word_of_offset word = word_of_byte_is (pos 4 *ℤ word) word (omega (arith, ints)) (omega (arith, ints))

-- a region of `count` whole words has as many words between its first byte and its last
pub words_of_region : (word : ℤ) (count : ℕ) → 1 ≤ count
    → words_touched (pos 4 *ℤ word) (pos 4 *ℤ word +ℤ pos (4 * count)) ≡ count
words_of_region word count some =
    ap (λ (z : ℤ). nat_abs z + 1) (difference ∙ same (count - 1) count (omega arith)) ∙ omega arith
  where
    last : word_of_byte (pos 4 *ℤ word +ℤ pos (4 * count) -ℤ pos 1) ≡ word +ℤ pos count -ℤ pos 1
    last = word_of_byte_is _ _ (omega (arith, ints)) (omega (arith, ints))

    difference : word_of_byte (pos 4 *ℤ word +ℤ pos (4 * count) -ℤ pos 1) -ℤ word_of_byte (pos 4 *ℤ word)
        ≡ pos count -ℤ pos 1
    difference = let f = word_of_offset word in let l = last in omega (arith, ints, f, l)

    same : (n count : ℕ) → n + 1 ≡ count → pos count -ℤ pos 1 ≡ pos n
    same n count e = omega (arith, ints)

-- each of `count` words passes the test that all pass
pub all_words_at : (test : ℤ → Bool) (first : ℤ) (count i : ℕ) → all_words test first count ≡ true → i < count
    → test (first +ℤ pos i) ≡ true
all_words_at test first zero i all low = absurd (omega arith)
all_words_at test first (suc more) i all low = elim (cases_eq i more) [
  | inl e ↦ subst (λ (n : ℕ). test (first +ℤ pos n) ≡ true) (sym e) (and_parts _ _ all).0
  | inr e ↦ all_words_at test first more i (and_parts _ _ all).1 (omega arith)
]
