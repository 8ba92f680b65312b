-- The ranges of results: in either order, of constants that are added, and of truths.
use Rattle.std.proofs.Common.{◌≡◌, ℤ, pos, Bool, true, false, ◌&&◌, cond, Option, Some, None, refl, ap}
use Rattle.std.proofs.Common.{subst, ◌∙◌, arith, FitsSigned}
use Rattle.std.specs.Prelude.{◌+ℤ◌, ◌-ℤ◌, ◌*ℤ◌}
use Rattle.std.specs.Int.{w32, int_min, int_max}
use Rattle.std.proofs.Math.IntN.{+ℤ_comm, *ℤ_comm}
use Rattle.std.proofs.lemmas.Int.{ints, clamps}
use lib.Count.{count_leading_zeros}
use Rattle.word_arithmetic.specs.Word.{is_word, checked_difference, word_not, word_and, word_or, word_xor}
use Rattle.word_arithmetic.specs.Range as ranges
use Rattle.word_arithmetic.specs.Range.{Ends, IsRange, truths, full, fitting, corners, product_range, bits_range}
use Rattle.word_arithmetic.specs.Range.{is_constant, is_not_negative, zero_to, all_ones, not_range, and_range, or_range}
use Rattle.word_arithmetic.specs.Range.{xor_range}
use Rattle.word_arithmetic.specs.Binary.{result_range}
use Rattle.word_arithmetic.specs.Unary.{unary_result_range}
use Rattle.word_arithmetic.specs.declared.binary.Binary.TheVariants as binary
use Rattle.word_arithmetic.specs.declared.unary.Unary.TheVariants as unary
use Rattle.word_arithmetic.proofs.BitLaws.{word_not_is}
use Rattle.word_arithmetic.proofs.WordLaws.{is_word_out}
use Rattle.word_arithmetic.proofs.RangesOfRanges.{unary_gives_ranges}
use Rattle.placed_code.proofs.WordsTurned.{and_turned, or_turned, xor_turned}
use Rattle.certified_lines.specs.Telling.{truth_range}

-- ---- constants

pub checked_by : (t : Bool) (z v : ℤ) → cond t (Some z) None ≡ Some v → (t ≡ true) × (z ≡ v)
checked_by true z v is = (refl, cc)
checked_by false z v is = absurd (cc)

pub same_ends : (a b c d : ℤ) → a ≡ c → b ≡ d
    → ◌≡◌ {A = Ends} (record { lo = a; hi = b }) (record { lo = c; hi = d })
same_ends a b c d p q = λ i. record { lo = p i; hi = q i }

-- to add what is below 0 by a constant is to subtract the constant
pub subtracted : (r q : Ends) (c d : ℤ) → checked_difference (pos 0) c ≡ Some d
    → result_range binary.Subtract r (ranges.constant c) ≡ Some q
    → FitsSigned w32 d × (result_range binary.Add r (ranges.constant d) ≡ Some q)
unfolding result_range
subtracted r q c d is gives =
    let below = checked_by (is_word (pos 0 -ℤ c)) (pos 0 -ℤ c) d is in
    let lo : r.lo +ℤ d ≡ r.lo -ℤ c = omega (arith, ints, below.1) in
    let hi : r.hi +ℤ d ≡ r.hi -ℤ c = omega (arith, ints, below.1) in (
      subst (FitsSigned w32) below.1 (is_word_out (pos 0 -ℤ c) below.0),
      ap fitting (same_ends (r.lo +ℤ d) (r.hi +ℤ d) (r.lo -ℤ c) (r.hi -ℤ c) lo hi) ∙ gives,
    )

-- bits that are turned, and 1 more, are what is subtracted from 0
pub negative : (r q : Ends) → IsRange r → result_range binary.Subtract (ranges.constant (pos 0)) r ≡ Some q
    → result_range binary.Add (not_range r) (ranges.constant (pos 1)) ≡ Some q
unfolding result_range
negative r q is gives =
    let lo : word_not r.hi +ℤ pos 1 ≡ pos 0 -ℤ r.hi = omega (arith, ints, word_not_is r.hi is.hi_fits) in
    let hi : word_not r.lo +ℤ pos 1 ≡ pos 0 -ℤ r.lo = omega (arith, ints, word_not_is r.lo is.lo_fits) in
    ap fitting (same_ends (word_not r.hi +ℤ pos 1) (word_not r.lo +ℤ pos 1) (pos 0 -ℤ r.hi) (pos 0 -ℤ r.lo) lo hi)
    ∙ gives

pub not_ranged : (r : Ends) → IsRange r → IsRange (not_range r)
unfolding unary_result_range
not_ranged r is = unary_gives_ranges unary.Not r (not_range r) is refl

pub constant_ranged : (v : ℤ) → FitsSigned w32 v → IsRange (ranges.constant v)
constant_ranged v fits = record { lo_fits = fits; hi_fits = fits; ordered = omega (arith, ints) }

pub full_ranged : IsRange full
full_ranged = record {
  lo_fits = omega (arith, ints);
  hi_fits = omega (arith, ints);
  ordered = omega (arith, ints);
}

-- ---- either order

min_turned : (a b : ℤ) → int_min a b ≡ int_min b a
min_turned a b = omega (arith, ints, clamps)

max_turned : (a b : ℤ) → int_max a b ≡ int_max b a
max_turned a b = omega (arith, ints, clamps)

min_crossed : (a b c d : ℤ) → int_min (int_min a b) (int_min c d) ≡ int_min (int_min a c) (int_min b d)
min_crossed a b c d = omega (arith, ints, clamps)

max_crossed : (a b c d : ℤ) → int_max (int_max a b) (int_max c d) ≡ int_max (int_max a c) (int_max b d)
max_crossed a b c d = omega (arith, ints, clamps)

pub sums_turned : (r s : Ends) → fitting (record { lo = s.lo +ℤ r.lo; hi = s.hi +ℤ r.hi })
    ≡ fitting (record { lo = r.lo +ℤ s.lo; hi = r.hi +ℤ s.hi })
sums_turned r s =
    ap fitting (same_ends (s.lo +ℤ r.lo) (s.hi +ℤ r.hi) (r.lo +ℤ s.lo) (r.hi +ℤ s.hi) (+ℤ_comm s.lo r.lo)
    (+ℤ_comm s.hi r.hi))

-- the corners of four numbers, however they are paired
paired : (a b c d : ℤ) → Ends
paired a b c d = record {
  lo = int_min (int_min a b) (int_min c d);
  hi = int_max (int_max a b) (int_max c d);
}

crossed : (a b c d : ℤ) → paired a b c d ≡ paired a c b d
unfolding paired
crossed a b c d =
    same_ends (int_min (int_min a b) (int_min c d)) (int_max (int_max a b) (int_max c d))
    (int_min (int_min a c) (int_min b d)) (int_max (int_max a c) (int_max b d)) (min_crossed a b c d)
    (max_crossed a b c d)

pub products_turned : (r s : Ends) → product_range s r ≡ product_range r s
unfolding paired
products_turned r s =
    ap fitting ((λ i. paired (*ℤ_comm s.lo r.lo i) (*ℤ_comm s.lo r.hi i) (*ℤ_comm s.hi r.lo i) (*ℤ_comm s.hi r.hi i))
    ∙ crossed (r.lo *ℤ s.lo) (r.hi *ℤ s.lo) (r.lo *ℤ s.hi) (r.hi *ℤ s.hi))

both_turned : (p q : Bool) → (q && p) ≡ (p && q)
both_turned true true = refl
both_turned true false = refl
both_turned false true = refl
both_turned false false = refl

bits_turned : (v w h k : ℤ) (r s : Ends) → w ≡ v → k ≡ h → bits_range w k s r ≡ bits_range v h r s
bits_turned v w h k r s same hi =
    λ i. cond (both_turned (is_constant r) (is_constant s) i) (ranges.constant (same i))
    (cond (both_turned (is_not_negative r) (is_not_negative s) i) (zero_to (hi i)) full)

pub and_ranges_turned : (r s : Ends) → and_range s r ≡ and_range r s
and_ranges_turned r s =
    bits_turned (word_and r.lo s.lo) (word_and s.lo r.lo) (int_min r.hi s.hi) (int_min s.hi r.hi) r s
    (and_turned r.lo s.lo) (min_turned s.hi r.hi)

pub or_ranges_turned : (r s : Ends) → or_range s r ≡ or_range r s
or_ranges_turned r s =
    bits_turned (word_or r.lo s.lo) (word_or s.lo r.lo) (all_ones (int_max r.hi s.hi)) (all_ones (int_max s.hi r.hi)) r
    s (or_turned r.lo s.lo) (ap all_ones (max_turned s.hi r.hi))

pub xor_ranges_turned : (r s : Ends) → xor_range s r ≡ xor_range r s
xor_ranges_turned r s =
    bits_turned (word_xor r.lo s.lo) (word_xor s.lo r.lo) (all_ones (int_max r.hi s.hi)) (all_ones (int_max s.hi r.hi))
    r s (xor_turned r.lo s.lo) (ap all_ones (max_turned s.hi r.hi))

-- ---- truths

pub truth_ranged : (o : Option Bool) → IsRange (truth_range o)
truth_ranged None = record {
  lo_fits = omega (arith, ints);
  hi_fits = omega (arith, ints);
  ordered = omega (arith, ints);
}
truth_ranged (Some true) = constant_ranged (pos 1) (omega (arith, ints))
truth_ranged (Some false) = constant_ranged (pos 0) (omega (arith, ints))

pub both_truths : (o p : Option Bool)
    → (q : Option Bool) × (result_range binary.And (truth_range o) (truth_range p) ≡ Some (truth_range q))
unfolding result_range
both_truths None None = (None, refl)
both_truths None (Some true) = (None, refl)
both_truths None (Some false) = (Some false, refl)
both_truths (Some true) None = (None, refl)
both_truths (Some true) (Some true) = (Some true, refl)
both_truths (Some true) (Some false) = (Some false, refl)
both_truths (Some false) None = (Some false, refl)
both_truths (Some false) (Some true) = (Some false, refl)
both_truths (Some false) (Some false) = (Some false, refl)

pub either_truth : (o p : Option Bool)
    → (q : Option Bool) × (result_range binary.Or (truth_range o) (truth_range p) ≡ Some (truth_range q))
unfolding result_range count_leading_zeros
either_truth None None = (None, refl)
either_truth None (Some true) = (None, refl)
either_truth None (Some false) = (None, refl)
either_truth (Some true) None = (None, refl)
either_truth (Some true) (Some true) = (Some true, refl)
either_truth (Some true) (Some false) = (Some true, refl)
either_truth (Some false) None = (None, refl)
either_truth (Some false) (Some true) = (Some true, refl)
either_truth (Some false) (Some false) = (Some false, refl)
