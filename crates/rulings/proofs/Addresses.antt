-- Addresses modulo 2^32, and what is known of a pointer that is shifted.
use Rattle.std.proofs.Common.{◌≡◌, ℕ, ◌+◌, ◌*◌, ◌%◌, ◌/◌, ◌^◌, ◌<◌, ℤ, pos, negsuc, ◌+ℤ◌, ◌*ℤ◌, ◌≤ℤ◌, suc, FitsSigned}
use Rattle.std.proofs.Common.{Some, refl, ap, ◌∙◌, arith}
use Rattle.std.proofs.lemmas.Bool.{eqb-true, eq-eqb}
use Rattle.std.proofs.lemmas.Int.{ints, to_z-of_z, int_wrap-add_left, int_wrap-add_right, wrapping_add-bits}
use Rattle.std.proofs.lemmas.Int.{wrapping_add_onto, wrapping_mul_onto}
use Rattle.std.specs.Prelude.{IsTrue}
use Rattle.std.specs.Int.{w32, int_wrap, cast_signed}
use Rattle.module_format.specs.declared.fact.Fact.TheVariants.{Pointer}
use Rattle.module_format.specs.declared.fact.Region.{Region}
use Rattle.module_format.specs.declared.fact.Step.{Step}
use Rattle.module_format.specs.declared.fact.Step.TheVariants.{Byte, Word}
use Rattle.module_format.specs.Order.{is_stepped}
use Rattle.module_format.specs.Contents.{Contents}
use Rattle.machine_state.specs.Memory.{local_address}
use Rattle.machine_state.specs.LocalStep as step
use Rattle.rulings.specs.Meaning.{Layout, Means, is_pointer, IsOffset, region_start}
use Rattle.word_arithmetic.proofs.BitLaws.{bits_below}

-- ---- addresses

-- a word that is added to an address
pub address_added : (n : ℕ) (b : ℤ) → n < 2 ^ 32 → FitsSigned w32 b
    → step.word_of ((n + step.address b) % 2 ^ 32) ≡ int_wrap w32 (cast_signed w32 n +ℤ b)
address_added n b low fits = wrapping_add_onto w32 n b low fits

pub words_added : (a b : ℤ) → FitsSigned w32 a → FitsSigned w32 b
    → step.word_of ((step.address a + step.address b) % 2 ^ 32) ≡ int_wrap w32 (a +ℤ b)
words_added a b fits other =
    address_added (step.address a) b (bits_below a fits) other
    ∙ ap (λ (z : ℤ). int_wrap w32 (z +ℤ b)) (to_z-of_z w32 a fits)

sum_of_rest : (n k : ℕ) → (n + k) % 4294967296 ≡ (n + k % 4294967296) % 4294967296
sum_of_rest n k = omega arith

rest_below : (k : ℕ) → k % 4294967296 < 4294967296
rest_below k = omega arith

-- word e from an address
pub local_word : (a e : ℤ) → FitsSigned w32 a → FitsSigned w32 e
    → step.word_of (local_address (step.address a) e) ≡ int_wrap w32 (a +ℤ (pos 4 *ℤ e))
unfolding local_address
local_word a e fits other =
    ap step.word_of (sum_of_rest (step.address a) (4 * step.address e))
    ∙ (wrapping_add-bits w32 (step.address a) ((4 * step.address e) % 4294967296) (bits_below a fits)
    (rest_below (4 * step.address e))
    ∙ (ap (λ (z : ℤ). int_wrap w32 (z +ℤ cast_signed w32 ((4 * step.address e) % 4294967296))) (to_z-of_z w32 a fits)
    ∙ (ap (λ (z : ℤ). int_wrap w32 (a +ℤ z)) (wrapping_mul_onto w32 4 e (omega arith) other)
    ∙ int_wrap-add_right w32 a (pos 4 *ℤ e))))

-- ---- multiples of four

pub stepped_quotient : (z : ℤ) → IsTrue (is_stepped z) → (q : ℤ) × (z ≡ pos 4 *ℤ q)
stepped_quotient (pos n) h =
    let e : n % 4 ≡ 0 = eqb-true (n % 4) 0 h in (pos (n / 4), omega (arith, ints))
stepped_quotient (negsuc n) h =
    let e : suc n % 4 ≡ 0 = eqb-true (suc n % 4) 0 h in (negsuc (n / 4), omega (arith, ints))

pub stepped : (z q : ℤ) → z ≡ pos 4 *ℤ q → IsTrue (is_stepped z)
stepped (pos n) q e = eq-eqb (n % 4) 0 (omega (arith, ints))
stepped (negsuc n) q e = eq-eqb (suc n % 4) 0 (omega (arith, ints))

pub stepped_sum : (y z : ℤ) → IsTrue (is_stepped y) → IsTrue (is_stepped z) → IsTrue (is_stepped (y +ℤ z))
stepped_sum y z h g =
    let p = stepped_quotient y h in
    let q = stepped_quotient z g in
    stepped (y +ℤ z) (p.0 +ℤ q.0) (omega (arith, ints, p.1, q.1))

pub stepped_words : (q : ℤ) → IsTrue (is_stepped (pos 4 *ℤ q))
stepped_words q = stepped (pos 4 *ℤ q) q refl

-- ---- pointers

-- A pointer further by a number between two others, at which its offsets are still those of such a step.
pub pointer_added : (m : Contents) (layout : Layout) (region : Region) (lo hi low high a d : ℤ) (steps further : Step)
    → Means m layout (Pointer region lo hi steps) (Some a) → low ≤ℤ d → d ≤ℤ high
    → ((offset : ℤ) → IsOffset steps offset → IsOffset further (offset +ℤ d))
    → Means m layout (Pointer region (lo +ℤ low) (hi +ℤ high) further) (Some (int_wrap w32 (a +ℤ d)))
pointer_added m layout region lo hi low high a d steps further (is_pointer offset from to stepped is) above under keep =
    is_pointer (offset +ℤ d) (omega (arith, ints)) (omega (arith, ints)) (keep offset stepped)
    (ap (λ (z : ℤ). int_wrap w32 (z +ℤ d)) is
    ∙ (int_wrap-add_left w32 (region_start m layout region +ℤ offset) d
    ∙ ap (int_wrap w32) (add_assoc (region_start m layout region) offset d)))
  where
    add_assoc : (x y z : ℤ) → x +ℤ y +ℤ z ≡ x +ℤ (y +ℤ z)
    add_assoc x y z = omega (arith, ints)

pub keeps_step : (steps : Step) (d : ℤ) → IsTrue (is_stepped d) → (offset : ℤ) → IsOffset steps offset
    → IsOffset steps (offset +ℤ d)
keeps_step Byte d h offset at = tt
keeps_step Word d h offset at = stepped_sum offset d at h

pub any_step : (steps : Step) (d : ℤ) → (offset : ℤ) → IsOffset steps offset → IsOffset Byte (offset +ℤ d)
any_step steps d offset at = tt
