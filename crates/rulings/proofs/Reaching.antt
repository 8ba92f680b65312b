-- Where the bytes lie that a pointer leads to, and what is there.
use Rattle.std.proofs.Common.{◌≡◌, ℕ, ◌+◌, ◌-◌, ◌/◌, ◌%◌, ◌<◌, ◌==◌, ℤ, pos, negsuc, ◌+ℤ◌, ◌-ℤ◌, ◌*ℤ◌, ◌≤ℤ◌, ◌<ℤ◌}
use Rattle.std.proofs.Common.{nat_abs, FitsSigned, Bool, true, length, Option, Some, None}
use Rattle.std.proofs.Common.{refl, sym, ap, ◌∙◌, subst, arith, inl, inr}
use Rattle.std.proofs.lemmas.Bool.{eq-eqb, cases_lt, and_parts}
use Rattle.std.proofs.lemmas.List.{get_or_past}
use Rattle.std.proofs.lemmas.Int.{ints, of_z-to_z, int_wrap-add_left, SFits-int_wrap}
use Rattle.std.specs.Prelude.{unsigned_abs, int_le}
use Rattle.std.specs.Int.{w32, int_wrap, int_rem_euclid}
use Rattle.small_laws.proofs.Comparisons.{int_le-true}
use Rattle.module_format.specs.declared.fact.Region.{Region}
use Rattle.module_format.specs.declared.fact.Region.TheVariants as regions
use Rattle.module_format.specs.Contents.{Contents}
use Rattle.machine_state.specs.Memory.{Memory, byte_at, place_of, local_address, data_start}
use Rattle.machine_state.specs.World.{constants_start}
use Rattle.machine_state.specs.LocalStep as step
use Rattle.states.proofs.SpanFacts.{all-there}
use Rattle.rulings.specs.Meaning.{Layout, region_start}
use Rattle.rulings.specs.Reach.{word_of_byte, words_touched, all_touched, lie_in}
use Rattle.rulings.proofs.Addresses.{local_word}

-- ---- addresses and places

-- the place where a region starts
abbrev pub region_place : Contents → Layout → Region → ℤ
region_place m layout regions.Frame = layout.origin
region_place m layout regions.Constants = pos (constants_start m)
region_place m layout (regions.Parameter j) = pos (place_of (layout.starts j))

-- the address is that of a place, modulo 2^32
pub record IsAt (z : ℤ) (place : ℕ) : Type 0 where
  pub turns : ℤ
  pub is : z ≡ pos data_start +ℤ pos place +ℤ (pos 4294967296 *ℤ turns)

rest_of : (z : ℤ) → unsigned_abs (int_rem_euclid z (pos 4294967296)) < 4294967296
rest_of (pos a) = omega arith
rest_of (negsuc a) = omega arith

pub address_of : (z : ℤ) → step.address (int_wrap w32 z) ≡ unsigned_abs (int_rem_euclid z (pos 4294967296))
unfolding int_wrap
address_of z = of_z-to_z w32 (unsigned_abs (int_rem_euclid z (pos 4294967296))) (rest_of z)

place_of_rest : (z : ℤ) (place : ℕ) → IsAt z place → place < 4294967296
    → place_of (unsigned_abs (int_rem_euclid z (pos 4294967296))) ≡ place
unfolding place_of
place_of_rest (pos a) place at low = let is = at.is in omega (arith, ints)
place_of_rest (negsuc a) place at low = let is = at.is in omega (arith, ints)

-- the place of an address
pub place_at : (z : ℤ) (place : ℕ) → IsAt z place → place < 4294967296
    → place_of (step.address (int_wrap w32 z)) ≡ place
place_at z place at low = ap place_of (address_of z) ∙ place_of_rest z place at low

even_rest : (z : ℤ) (place : ℕ) → IsAt z place → place % 4 ≡ 0
    → unsigned_abs (int_rem_euclid z (pos 4294967296)) % 4 ≡ 0
even_rest (pos a) place at even = let is = at.is in omega (arith, ints)
even_rest (negsuc a) place at even = let is = at.is in omega (arith, ints)

-- an address of a multiple of 4 is one
pub even_at : (z : ℤ) (place : ℕ) → IsAt z place → place % 4 ≡ 0 → (step.address (int_wrap w32 z) % 4 == 0) ≡ true
even_at z place at even =
    eq-eqb (step.address (int_wrap w32 z) % 4) 0 (ap (λ (n : ℕ). n % 4) (address_of z) ∙ even_rest z place at even)

frame_at : (origin offset : ℤ) (place : ℕ) → pos place ≡ origin +ℤ offset
    → IsAt (pos data_start +ℤ origin +ℤ offset) place
frame_at origin offset place is = record { turns = pos 0; is = omega (arith, ints) }

constant_at : (begin place : ℕ) (offset : ℤ) → pos place ≡ pos begin +ℤ offset
    → IsAt (pos (data_start + begin) +ℤ offset) place
constant_at begin place offset is = record { turns = pos 0; is = omega (arith, ints) }

parameter_at : (start place : ℕ) (offset : ℤ) → pos place ≡ pos (place_of start) +ℤ offset
    → IsAt (pos start +ℤ offset) place
unfolding place_of
parameter_at start place offset is = record {
  turns = pos ((start + (4294967296 - data_start)) / 4294967296) -ℤ pos 1;
  is = omega (arith, ints);
}

-- the address of a byte of a region is that of its place
pub region_at : (m : Contents) (layout : Layout) (region : Region) (offset : ℤ) (place : ℕ)
    → pos place ≡ region_place m layout region +ℤ offset → IsAt (region_start m layout region +ℤ offset) place
region_at m layout regions.Frame offset place is = frame_at layout.origin offset place is
region_at m layout regions.Constants offset place is = constant_at (constants_start m) place offset is
region_at m layout (regions.Parameter j) offset place is = parameter_at (layout.starts j) place offset is

-- ---- words of the frame that are touched

word_low : (z k : ℤ) → z <ℤ (pos 4 *ℤ k +ℤ pos 4) → word_of_byte z ≤ℤ k
word_low (pos n) k h = omega (arith, ints)
word_low (negsuc n) k h = omega (arith, ints)

word_high : (z k : ℤ) → (pos 4 *ℤ k) ≤ℤ z → k ≤ℤ word_of_byte z
word_high (pos n) k h = omega (arith, ints)
word_high (negsuc n) k h = omega (arith, ints)

-- a byte lies in its word
pub word_of_byte_low : (z : ℤ) → (pos 4 *ℤ word_of_byte z) ≤ℤ z
word_of_byte_low (pos n) = omega (arith, ints)
word_of_byte_low (negsuc n) = omega (arith, ints)

pub word_of_byte_high : (z : ℤ) → z <ℤ (pos 4 *ℤ word_of_byte z +ℤ pos 4)
word_of_byte_high (pos n) = omega (arith, ints)
word_of_byte_high (negsuc n) = omega (arith, ints)

size_of : (z : ℤ) → pos 0 ≤ℤ z → pos (nat_abs z) ≡ z
size_of (pos n) h = refl
size_of (negsuc n) h = absurd (omega (arith, ints))

-- a word that has one of the bytes is in the span
pub touched_span : (first end k : ℤ) → first <ℤ (pos 4 *ℤ k +ℤ pos 4) → (pos 4 *ℤ k) <ℤ end
    → (word_of_byte first ≤ℤ k) × (k <ℤ (word_of_byte first +ℤ pos (words_touched first end)))
touched_span first end k low high =
    let from = word_low first k low in
    let to = word_high (end -ℤ pos 1) k (omega (arith, ints)) in
    let size = size_of (word_of_byte (end -ℤ pos 1) -ℤ word_of_byte first) (omega (arith, ints, from, to)) in
    (from, omega (arith, ints, from, to, size))

pub touched_passes : (test : ℤ → Bool) (first end k : ℤ) → all_touched test first end ≡ true
    → first <ℤ (pos 4 *ℤ k +ℤ pos 4) → (pos 4 *ℤ k) <ℤ end → test k ≡ true
touched_passes test first end k all low high =
    let span = touched_span first end k low high in
    all-there test (word_of_byte first) (words_touched first end) k all span.0 span.1

-- ---- bytes that lie in a region

pub lies_inside : (size : Option ℕ) (first end : ℤ) → lie_in size first end ≡ true
    → (n : ℕ) × (size ≡ Some n) × (pos 0 ≤ℤ first) × (end ≤ℤ pos n)
lies_inside None first end h = absurd (cc)
lies_inside (Some n) first end h =
    let both = and_parts (int_le (pos 0) first) (int_le end (pos n)) h in
    (n, refl, int_le-true (pos 0) first both.0, int_le-true end (pos n) both.1)

-- a byte that is defined is one of memory
pub inside_memory : (memory : Memory) (place b : ℕ) → byte_at memory place ≡ Some b → place < length memory
inside_memory memory place b found = elim (cases_lt place (length memory)) [
  | inl low ↦ low
  | inr past ↦ let none : None ≡ Some b = sym (get_or_past memory place None past) ∙ found in absurd (cc)
]

-- the word of a byte, by how far it is after word 0, or before it
pub word_behind : (z : ℤ) (n : ℕ) (r : ℤ) → z ≡ negsuc n → r ≡ negsuc (n / 4) → r ≡ word_of_byte z
word_behind z n r z_is r_is = r_is ∙ sym (ap word_of_byte z_is)

pub word_ahead : (z : ℤ) (n : ℕ) (r : ℤ) → z ≡ pos n → r ≡ pos (n / 4) → r ≡ word_of_byte z
word_ahead z n r z_is r_is = r_is ∙ sym (ap word_of_byte z_is)

-- ---- words after an address

local_below : (a : ℕ) (e : ℤ) → local_address a e < 4294967296
unfolding local_address
local_below a e = omega arith

-- the place of word e from the address of a byte
pub word_place : (v start offset e : ℤ) (place : ℕ) → v ≡ int_wrap w32 (start +ℤ offset) → FitsSigned w32 e
    → IsAt (start +ℤ (offset +ℤ (pos 4 *ℤ e))) place → place < 4294967296
    → place_of (local_address (step.address v) e) ≡ place
word_place v start offset e place v_is fits at low =
    let there : FitsSigned w32 v = subst (λ (z : ℤ). FitsSigned w32 z) (sym v_is)
    (SFits-int_wrap w32 (start +ℤ offset)) in
    let word : step.word_of (local_address (step.address v) e) ≡ int_wrap w32 (start +ℤ (offset +ℤ (pos 4 *ℤ e))) =
    local_word v e there fits
    ∙ (ap (λ (z : ℤ). int_wrap w32 (z +ℤ (pos 4 *ℤ e))) v_is
    ∙ (int_wrap-add_left w32 (start +ℤ offset) (pos 4 *ℤ e)
    ∙ ap (int_wrap w32) (assoc start offset (pos 4 *ℤ e)))) in
    ap place_of (sym (of_z-to_z w32 (local_address (step.address v) e) (local_below (step.address v) e))
    ∙ ap step.address word)
    ∙ place_at (start +ℤ (offset +ℤ (pos 4 *ℤ e))) place at low
  where
    assoc : (x y z : ℤ) → x +ℤ y +ℤ z ≡ x +ℤ (y +ℤ z)
    assoc x y z = omega (arith, ints)

-- the address is a multiple of 4 where that of a word after it is
pub even_word : (v start offset e : ℤ) (place : ℕ) → v ≡ int_wrap w32 (start +ℤ offset)
    → IsAt (start +ℤ (offset +ℤ (pos 4 *ℤ e))) place → place % 4 ≡ 0 → (step.address v % 4 == 0) ≡ true
even_word v start offset e place v_is at even =
    eq-eqb (step.address v % 4) 0
    (ap (λ (z : ℤ). step.address z % 4) v_is
    ∙ (ap (λ (n : ℕ). n % 4) (address_of (start +ℤ offset)) ∙ rest (start +ℤ offset) (omega_is start offset)))
  where
    omega_is : (start offset : ℤ) → start +ℤ offset ≡ start +ℤ offset
    omega_is start offset = refl

    rest : (z : ℤ) → z ≡ start +ℤ offset → unsigned_abs (int_rem_euclid z (pos 4294967296)) % 4 ≡ 0
    rest (pos a) z_is = let is = at.is in omega (arith, ints)
    rest (negsuc a) z_is = let is = at.is in omega (arith, ints)
