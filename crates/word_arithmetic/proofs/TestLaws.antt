-- Comparisons with a word as tests whether a number lies in a range.
use Rattle.std.proofs.Common.{◌≡◌, Bool, true, false, Option, Some, None, refl, sym, subst, ◌∙◌, arith}
use Rattle.std.proofs.Common.{ℤ, pos, ◌+ℤ◌, ◌-ℤ◌, ◌≤ℤ◌, ◌<ℤ◌, FitsSigned}
use Rattle.std.proofs.Common.{int_le}
use Rattle.std.specs.Int.{w32, int_min, int_max}
use Rattle.std.proofs.lemmas.Int.{ints, clamps, by_lt_z}
use Rattle.std.proofs.lemmas.Bool.{false_from_ne_true}
use Rattle.small_laws.proofs.Comparisons.{le-int_le, lt-int_le}
use Rattle.word_arithmetic.specs.declared.compare.Comparison.{Comparison}
use Rattle.word_arithmetic.specs.declared.compare.Comparison.TheVariants.{Equal, NotEqual, Less, LessOrEqual, Greater}
use Rattle.word_arithmetic.specs.declared.compare.Comparison.TheVariants.{GreaterOrEqual}
use Rattle.word_arithmetic.specs.Word.{least_word, greatest_word}
use Rattle.word_arithmetic.specs.Range.{Ends, InRange, IsRange, Narrows, in_range, inside, outside, left_by}
use Rattle.word_arithmetic.specs.Range.{at_least, at_most, words_above, words_below, left_by_test}
use Rattle.word_arithmetic.specs.Range.{as_test, narrowed, ComparisonsAreTests}
use Rattle.word_arithmetic.proofs.EndsLaws.{in_range_in, in_range_out, not_in_range, words_in_order_are_ranges}
use Rattle.word_arithmetic.proofs.EndsLaws.{cond_true, cond_false, is_range}
use Rattle.word_arithmetic.proofs.NarrowingLaws.{inside_narrows, outside_narrows, same_narrows, outside_at}

-- ---- what is left by a test

pub left_narrows : (is_inside : Bool) (r other : Ends) → r.lo ≤ℤ r.hi
    → Narrows (λ v. in_range other v ≡ is_inside) r (left_by is_inside r other)
left_narrows true r other ordered =
    same_narrows (λ v. InRange other v) (λ v. in_range other v ≡ true) r (inside r other)
    (λ v m. (in_range_in other v, in_range_out other v)) (inside_narrows r other)
left_narrows false r other ordered =
    same_narrows (λ v. InRange other v → ⊥) (λ v. in_range other v ≡ false) r (outside r other)
    (λ v m. ((λ n. false_from_ne_true (in_range other v) (λ h. n (in_range_out other v h))), not_in_range other v))
    (outside_narrows r other ordered)

-- what follows the rule keeps what a test leaves
pub left_by_rule : (is_inside : Bool) (r other new : Ends) → r.lo ≤ℤ r.hi → new ≡ left_by is_inside r other
    → Narrows (λ v. in_range other v ≡ is_inside) r new
left_by_rule is_inside r other new ordered e =
    subst (Narrows (λ v. in_range other v ≡ is_inside) r) (sym e) (left_narrows is_inside r other ordered)

-- ---- what is left above and below a word

module _ (r : Ends) (ordered : r.lo ≤ℤ r.hi) where
  -- the part inside another range is the numbers from the greater lower end to the lesser upper one
  inside_part : (k part : Ends) → int_max r.lo k.lo ≡ part.lo → int_min r.hi k.hi ≡ part.hi → part.lo ≤ℤ part.hi
      → inside r k ≡ part
  inside_part k part low high in_order =
      let both : Ends = record { lo = int_max r.lo k.lo; hi = int_min r.hi k.hi } in
      sym (cond_true (int_le both.lo both.hi) both r part (le-int_le both.lo both.hi (omega (arith, ints, low, high)))
      (λ i. record { lo = sym low i; hi = sym high i }))

  -- a range that meets this one nowhere leaves it as it is
  inside_none : (k : Ends) → int_min r.hi k.hi <ℤ int_max r.lo k.lo → inside r k ≡ r
  inside_none k meets =
      let both : Ends = record { lo = int_max r.lo k.lo; hi = int_min r.hi k.hi } in
      sym (cond_false (int_le both.lo both.hi) both r r (lt-int_le both.lo both.hi meets) refl)

  holds : (k : Ends) (v : ℤ) → k.lo ≤ℤ v → v ≤ℤ k.hi → in_range k v ≡ true
  holds k v low high = in_range_in k v (record { from_lo = low; to_hi = high })

  ends_before : (k : Ends) (v : ℤ) → k.hi <ℤ v → in_range k v ≡ false
  ends_before k v after =
      false_from_ne_true (in_range k v) (λ h. let m = (in_range_out k v h).to_hi in omega (arith, ints))

  begins_behind : (k : Ends) (v : ℤ) → v <ℤ k.lo → in_range k v ≡ false
  begins_behind k v before =
      false_from_ne_true (in_range k v) (λ h. let m = (in_range_out k v h).from_lo in omega (arith, ints))

  -- nothing is left outside a range with all of this one
  outside_all : (k : Ends) → k.lo ≤ℤ r.lo → r.hi ≤ℤ k.hi → outside r k ≡ r
  outside_all k low high =
      outside_at r k true true (holds k r.lo low (omega (arith, ints))) (holds k r.hi (omega (arith, ints)) high)

  -- and inside it all is
  inside_all : (k : Ends) → k.lo ≤ℤ r.lo → r.hi ≤ℤ k.hi → inside r k ≡ r
  inside_all k low high = inside_part k r (omega (arith, ints, clamps)) (omega (arith, ints, clamps)) ordered

  module _ (lower upper : Ends) (begins : lower.lo ≤ℤ r.lo) (ends : r.hi ≤ℤ upper.hi)
      (next : upper.lo ≡ lower.hi +ℤ pos 1) where
    -- to remove the lower range of two that meet is to keep the upper one
    without_lower : outside r lower ≡ inside r upper
    without_lower = by_lt_z lower.hi r.lo
        (λ above. outside_at r lower false false (ends_before lower r.lo above)
        (ends_before lower r.hi (omega (arith, ints)))
        ∙ sym (inside_all upper (omega (arith, ints, next)) ends))
        (λ reaches. by_lt_z lower.hi r.hi
        (λ part. outside_at r lower true false (holds lower r.lo begins reaches) (ends_before lower r.hi part)
        ∙ sym (inside_part upper _ (omega (arith, ints, clamps, next)) (omega (arith, ints, clamps))
        (omega (arith, ints))))
        (λ all. outside_all lower begins all
        ∙ sym (inside_none upper (omega (arith, ints, clamps, next)))))

    -- and to remove the upper one is to keep the lower one
    without_upper : outside r upper ≡ inside r lower
    without_upper = by_lt_z r.hi upper.lo
        (λ below. outside_at r upper false false (begins_behind upper r.lo (omega (arith, ints)))
        (begins_behind upper r.hi below)
        ∙ sym (inside_all lower begins (omega (arith, ints, next))))
        (λ reaches. by_lt_z r.lo upper.lo
        (λ part. outside_at r upper false true (begins_behind upper r.lo part) (holds upper r.hi reaches ends)
        ∙ sym (inside_part lower _ (omega (arith, ints, clamps)) (omega (arith, ints, clamps, next))
        (omega (arith, ints, next))))
        (λ all. outside_all upper all ends
        ∙ sym (inside_none lower (omega (arith, ints, clamps, next)))))

-- ---- comparisons

-- what is tested, if there are words above, and if there are none
module _ (v : ℤ) (fits : FitsSigned w32 v) (A : Option Ends → Type 0) where
  above_is : (v <ℤ greatest_word → A (Some (record { lo = v +ℤ pos 1; hi = greatest_word })))
      → (greatest_word ≤ℤ v → A None) → A (words_above v)
  above_is some none = by_lt_z v greatest_word
      (λ below. subst A (sym ((words_in_order_are_ranges (v +ℤ pos 1) greatest_word
      (record { lo = v +ℤ pos 1; hi = greatest_word })).1
      (is_range (omega (arith, ints)) (omega (arith, ints)) (omega (arith, ints)), refl, refl))) (some below))
      (λ reaches. subst A (cond_false (int_le (v +ℤ pos 1) greatest_word) _ None None
      (lt-int_le (v +ℤ pos 1) greatest_word (omega (arith, ints))) refl) (none reaches))

  below_is : (least_word <ℤ v → A (Some (record { lo = least_word; hi = v -ℤ pos 1 })))
      → (v ≤ℤ least_word → A None) → A (words_below v)
  below_is some none = by_lt_z least_word v
      (λ above. subst A (sym ((words_in_order_are_ranges least_word (v -ℤ pos 1)
      (record { lo = least_word; hi = v -ℤ pos 1 })).1
      (is_range (omega (arith, ints)) (omega (arith, ints)) (omega (arith, ints)), refl, refl))) (some above))
      (λ reaches. subst A (cond_false (int_le least_word (v -ℤ pos 1)) _ None None
      (lt-int_le least_word (v -ℤ pos 1) (omega (arith, ints))) refl) (none reaches))

module _ (v : ℤ) (r : Ends) (fits : FitsSigned w32 v) (is : IsRange r) where
  low : least_word ≤ℤ r.lo
  low = let f = is.lo_fits in omega (arith, ints)

  high : r.hi ≤ℤ greatest_word
  high = let f = is.hi_fits in omega (arith, ints)

  tests_so : (c : Comparison) → narrowed c v r ≡ left_by_test (as_test c v) r
  tests_so Equal = refl
  tests_so NotEqual = refl
  tests_so Less = below_is v fits (λ o. outside r (at_least v) ≡ left_by_test (true, o) r)
      (λ above. without_upper r is.ordered (record { lo = least_word; hi = v -ℤ pos 1 }) (at_least v) low high
      (omega (arith, ints)))
      (λ reaches. outside_all r is.ordered (at_least v) (omega (arith, ints, low)) high)
  tests_so LessOrEqual = above_is v fits (λ o. inside r (at_most v) ≡ left_by_test (false, o) r)
      (λ below. sym (without_upper r is.ordered (at_most v) (record { lo = v +ℤ pos 1; hi = greatest_word }) low high
      refl))
      (λ reaches. inside_all r is.ordered (at_most v) low (omega (arith, ints, high)))
  tests_so Greater = above_is v fits (λ o. outside r (at_most v) ≡ left_by_test (true, o) r)
      (λ below. without_lower r is.ordered (at_most v) (record { lo = v +ℤ pos 1; hi = greatest_word }) low high refl)
      (λ reaches. outside_all r is.ordered (at_most v) low (omega (arith, ints, high)))
  tests_so GreaterOrEqual = below_is v fits (λ o. inside r (at_least v) ≡ left_by_test (false, o) r)
      (λ above. sym (without_lower r is.ordered (record { lo = least_word; hi = v -ℤ pos 1 }) (at_least v) low high
      (omega (arith, ints))))
      (λ reaches. inside_all r is.ordered (at_least v) (omega (arith, ints, low)) high)

pub comparisons_are_tests : ComparisonsAreTests
comparisons_are_tests c v r fits is = tests_so v r fits is c
