-- Modulo 2^32 a result that fits a word is exact, and each result is some word.
use Rattle.std.proofs.Common.{◌≡◌, Bool, true, false, cond, refl, sym, subst, ◌∙◌, arith, Option, Some, None, IsSomeAnd}
use Rattle.std.proofs.Common.{unwrap_or, ℤ, ◌+ℤ◌, ◌-ℤ◌, ◌*ℤ◌, FitsSigned}
use Rattle.std.specs.Int.{w32, int_wrap}
use Rattle.std.proofs.lemmas.Int.{ints, int_wrap_fits, SFits-int_wrap, wrapping_add_is, wrapping_sub_is}
use Rattle.std.proofs.lemmas.Int.{wrapping_mul_is}
use Rattle.word_arithmetic.specs.Word.{is_word, checked, word_sum, word_difference, word_product}
use Rattle.word_arithmetic.specs.Range.{Ends, InRange, IsRange, ResultsStay, BoundsResults, full, sum_range}
use Rattle.word_arithmetic.specs.Range.{difference_range}
use Rattle.word_arithmetic.specs.Range.{product_range, word_sum_range, word_difference_range, word_product_range}
use Rattle.word_arithmetic.proofs.WordLaws.{is_word_out}
use Rattle.word_arithmetic.proofs.EndsLaws.{member_fits}
use Rattle.word_arithmetic.proofs.SumLaws.{sum_exact, difference_exact}
use Rattle.word_arithmetic.proofs.CornerLaws.{product_exact}

-- each word lies in the range of all words
pub in_full : (z : ℤ) → FitsSigned w32 z → InRange full z
in_full z f = record { from_lo = omega (arith, ints); to_hi = omega (arith, ints) }

-- An operation g that is f modulo 2^32 holds in the range of the checked f, or in all words where that has none.
modular_holds : (g f : ℤ → ℤ → ℤ) → ((x y : ℤ) → FitsSigned w32 x → FitsSigned w32 y → g x y ≡ int_wrap w32 (f x y))
    → (r s : Ends) (o : Option Ends) → IsRange r → IsRange s
    → BoundsResults (λ x y. checked (f x y)) r s o → ResultsStay g r s (unwrap_or o full)
modular_holds g f is r s None p q b x y m n =
    subst (InRange full) (sym (is x y (member_fits r x p m) (member_fits s y q n)))
    (in_full (int_wrap w32 (f x y)) (SFits-int_wrap w32 (f x y)))
modular_holds g f is r s (Some t) p q b x y m n =
    let e = exact (f x y) (is_word (f x y)) t refl (b.members x y m n) in
    subst (InRange t) (sym (is x y (member_fits r x p m) (member_fits s y q n) ∙ int_wrap_fits w32 (f x y) e.0)) e.1
  where
    -- a checked result that lies in a range is the number itself, and a word
    exact : (z : ℤ) (b : Bool) (t : Ends) → b ≡ is_word z → IsSomeAnd (cond b (Some z) None) (InRange t)
        → FitsSigned w32 z × InRange t z
    exact z true t e h = (is_word_out z (sym e), h)
    exact z false t e h = absurd h

module _ (r s : Ends) (p : IsRange r) (q : IsRange s) where
  -- the range of the sums modulo 2^32 holds them
  pub word_sum_holds : ResultsStay word_sum r s (word_sum_range r s)
  word_sum_holds =
      modular_holds word_sum (λ x y. x +ℤ y) (wrapping_add_is w32) r s (sum_range r s) p q
      (sum_exact r s p.ordered q.ordered).bounds

  -- that of the differences
  pub word_difference_holds : ResultsStay word_difference r s (word_difference_range r s)
  word_difference_holds =
      modular_holds word_difference (λ x y. x -ℤ y) (wrapping_sub_is w32) r s (difference_range r s) p q
      (difference_exact r s p.ordered q.ordered).bounds

  -- that of the products
  pub word_product_holds : ResultsStay word_product r s (word_product_range r s)
  word_product_holds =
      modular_holds word_product (λ x y. x *ℤ y) (wrapping_mul_is w32) r s (product_range r s) p q
      (product_exact r s p.ordered q.ordered).bounds
