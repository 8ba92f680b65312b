-- The range of the sums, and that of the differences, is exact.
use Rattle.std.proofs.Common.{◌≡◌, inl, inr, Option, Some, None, arith, ℤ, ◌+ℤ◌, ◌-ℤ◌, ap, ◌∙◌, refl, sym, subst, ◌≤ℤ◌}
use Rattle.std.proofs.Common.{◌&&◌, IsSomeAnd, FitsSigned}
use Rattle.std.specs.Int.{w32}
use Rattle.std.proofs.lemmas.Int.{ints}
use Rattle.std.proofs.lemmas.Bool.{cond_both, and_parts, and_cases}
use Rattle.word_arithmetic.specs.Word.{is_word, checked, checked_sum, checked_difference}
use Rattle.word_arithmetic.specs.Range.{Ends, InRange, ResultsStay, HoldsChecked, HasResult, BoundsResults}
use Rattle.word_arithmetic.specs.Range.{BoundsExactly}
use Rattle.word_arithmetic.specs.Range.{fitting, sum_range, difference_range}
use Rattle.word_arithmetic.proofs.WordLaws.{is_word_out, checked_fits, not_checked}
use Rattle.word_arithmetic.proofs.EndsLaws.{fits_between, lo_in, hi_in}

-- ---- what is said of a range that may not be there

-- what follows an exact rule is exact
pub exact_by : {f : ℤ → ℤ → Option ℤ} {r s : Ends} {o e : Option Ends} → o ≡ e → BoundsExactly f r s e
    → BoundsExactly f r s o
exact_by {f = f} {r = r} {s = s} h b = subst (BoundsExactly f r s) (sym h) b

-- the results of members lie in the range, where there is one
pub members_of : {f : ℤ → ℤ → Option ℤ} {r s t : Ends} {e : Option Ends} → BoundsResults f r s e → e ≡ Some t
    → HoldsChecked f r s t
members_of {f = f} {r = r} {s = s} b h = (subst (BoundsResults f r s) h b).members

-- ---- ends that are results of members

-- f has this result at some members
pub record AtMembers (f : ℤ → ℤ → ℤ) (r s : Ends) (z : ℤ) : Type 0 where
  pub x : ℤ
  pub y : ℤ
  pub x_in : InRange r x
  pub y_in : InRange s y
  pub is : f x y ≡ z

-- f has each of its results there
pub at_members : (f : ℤ → ℤ → ℤ) (r s : Ends) (x y : ℤ) → InRange r x → InRange s y → AtMembers f r s (f x y)
at_members f r s x y h k = record { x = x; y = y; x_in = h; y_in = k; is = refl }

-- If g is the number f where a word represents it, and the range e holds each result of f and both its ends are such
-- results, then e is exact for g where its ends fit, and where one doesn't, some members set the error flag.
pub fitting_exact : (g : ℤ → ℤ → Option ℤ) (f : ℤ → ℤ → ℤ) (r s e : Ends)
    → ((x y : ℤ) → InRange r x → InRange s y → g x y ≡ checked (f x y))
    → ResultsStay f r s e → AtMembers f r s e.lo → AtMembers f r s e.hi → BoundsExactly g r s (fitting e)
fitting_exact g f r s e is members lo hi =
    cond_both (is_word e.lo && is_word e.hi) (Some e) None (BoundsExactly g r s)
    (λ h. let w = and_parts (is_word e.lo) (is_word e.hi) h in
    let p = is_word_out e.lo w.0 in
    let q = is_word_out e.hi w.1 in
    record {
      bounds = record { members = λ x y m n. member p q x y m n; none = tt };
      reached = record {
        lo = reaches e.lo (Some e.lo) lo (checked_fits e.lo p);
        hi = reaches e.hi (Some e.hi) hi (checked_fits e.hi q);
      };
    })
    (λ h. record {
      bounds = record {
        members = tt;
        none = elim (and_cases (is_word e.lo) (is_word e.hi) h) [
          | inl p ↦ reaches e.lo None lo (not_checked e.lo p)
          | inr q ↦ reaches e.hi None hi (not_checked e.hi q)
        ];
      };
      reached = tt;
    })
  where
    reaches : (z : ℤ) (o : Option ℤ) → AtMembers f r s z → checked z ≡ o → HasResult g r s o
    reaches z o a h =
        record { x = a.x; y = a.y; x_in = a.x_in; y_in = a.y_in; is = is a.x a.y a.x_in a.y_in ∙ ap checked a.is ∙ h }

    member : FitsSigned w32 e.lo → FitsSigned w32 e.hi → (x y : ℤ) → InRange r x → InRange s y
        → IsSomeAnd (g x y) (InRange e)
    member p q x y m n =
        subst (λ o. IsSomeAnd o (InRange e))
        (sym (is x y m n ∙ checked_fits (f x y) (fits_between e (f x y) p q (members x y m n))))
        (members x y m n)

-- ---- the rules

-- the range of the sums is exact
pub sum_exact : (r s : Ends) → r.lo ≤ℤ r.hi → s.lo ≤ℤ s.hi → BoundsExactly checked_sum r s (sum_range r s)
sum_exact r s p q =
    fitting_exact checked_sum (λ x y. x +ℤ y) r s (record { lo = r.lo +ℤ s.lo; hi = r.hi +ℤ s.hi }) (λ x y m n. refl)
    (λ x y m n. record { from_lo = omega (arith, ints); to_hi = omega (arith, ints) })
    (at_members (λ x y. x +ℤ y) r s r.lo s.lo (lo_in r p) (lo_in s q))
    (at_members (λ x y. x +ℤ y) r s r.hi s.hi (hi_in r p) (hi_in s q))

-- the range of the differences is exact
pub difference_exact : (r s : Ends) → r.lo ≤ℤ r.hi → s.lo ≤ℤ s.hi
    → BoundsExactly checked_difference r s (difference_range r s)
difference_exact r s p q =
    fitting_exact checked_difference (λ x y. x -ℤ y) r s (record { lo = r.lo -ℤ s.hi; hi = r.hi -ℤ s.lo })
    (λ x y m n. refl)
    (λ x y m n. record { from_lo = omega (arith, ints); to_hi = omega (arith, ints) })
    (at_members (λ x y. x -ℤ y) r s r.lo s.hi (lo_in r p) (hi_in s q))
    (at_members (λ x y. x -ℤ y) r s r.hi s.lo (hi_in r p) (lo_in s q))
