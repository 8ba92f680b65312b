-- Quotients lie within the corners, where no divisor is 0.
use Rattle.std.proofs.Common.{◌≡◌, ◌≢◌, ℕ, zero, suc, ◌/◌, ◌<◌, ◌≤◌, ◌⊎◌, inl, inr, false, refl, sym, arith, None, ℤ}
use Rattle.std.proofs.Common.{pos, negsuc, ◌≤ℤ◌, ◌<ℤ◌, int_div, int_le, mul-le-mul_left, div-mul-le_self}
use Rattle.std.proofs.lemmas.Int.{ints}
use Rattle.std.proofs.lemmas.Bool.{cond_both, and_cases}
use Rattle.std.proofs.lemmas.Nat.{le-div}
use Rattle.word_arithmetic.specs.Word.{checked, checked_quotient}
use Rattle.word_arithmetic.specs.Range.{Ends, InRange, BoundsExactly, in_range, corners, fitting, quotient_range}
use Rattle.word_arithmetic.proofs.EndsLaws.{lo_in, in_range_out}
use Rattle.word_arithmetic.proofs.SumLaws.{fitting_exact}
use Rattle.word_arithmetic.proofs.CornerLaws.{Between, rising, falling, corners_hold, corners_lo, corners_hi}

-- ---- division rises with the dividend, and falls where the divisor grows

-- a greater dividend has no lesser quotient
divided_more : (a b n : ℕ) → a ≤ b → a / suc n ≤ b / suc n
divided_more a b n h = le-div (a / suc n) b (suc n) (omega arith) (omega (arith, div-mul-le_self a (suc n)))

-- a greater divisor has no greater quotient
pub divided_by_more : (a m n : ℕ) → 0 < m → m ≤ n → a / n ≤ a / m
divided_by_more a m n p h = le-div (a / n) a m p (omega (arith, div-mul-le_self a n, mul-le-mul_left (a / n) h))

-- ---- one divisor

-- a positive divisor keeps the order of dividends
divided_up : (n : ℕ) (x z : ℤ) → x ≤ℤ z → int_div x (pos (suc n)) ≤ℤ int_div z (pos (suc n))
divided_up n (pos a) (pos b) h = omega (arith, ints, divided_more a b n (omega (arith, ints)))
divided_up n (pos a) (negsuc b) h = absurd h.le
divided_up n (negsuc a) (pos b) h = omega (arith, ints)
divided_up n (negsuc a) (negsuc b) h = omega (arith, ints, divided_more (suc b) (suc a) n (omega (arith, ints)))

-- a negative one turns it
divided_down : (n : ℕ) (x z : ℤ) → x ≤ℤ z → int_div z (negsuc n) ≤ℤ int_div x (negsuc n)
divided_down n (pos a) (pos b) h = omega (arith, ints, divided_more a b n (omega (arith, ints)))
divided_down n (pos a) (negsuc b) h = absurd h.le
divided_down n (negsuc a) (pos b) h = omega (arith, ints)
divided_down n (negsuc a) (negsuc b) h = omega (arith, ints, divided_more (suc b) (suc a) n (omega (arith, ints)))

-- a quotient lies between those of the ends of the dividend
quotient_across : (p q x y : ℤ) → y ≢ pos 0 → p ≤ℤ x → x ≤ℤ q → Between (int_div p y) (int_div q y) (int_div x y)
quotient_across p q x (pos zero) e h k = absurd (e refl)
quotient_across p q x (pos (suc n)) e h k = rising (divided_up n p x h) (divided_up n x q k)
quotient_across p q x (negsuc n) e h k = falling (divided_down n p x h) (divided_down n x q k)

-- ---- one dividend

-- by positive divisors, a quotient lies between those of their ends
along_positive : (x p q y : ℤ) → pos 0 <ℤ p → p ≤ℤ y → y ≤ℤ q → Between (int_div x p) (int_div x q) (int_div x y)
along_positive x (negsuc p) q y o h k = absurd o.lt
along_positive x (pos p) q (negsuc y) o h k = absurd h.le
along_positive x (pos p) (negsuc q) (pos y) o h k = absurd k.le
along_positive (pos a) (pos p) (pos q) (pos y) o h k =
    falling (omega (arith, ints, divided_by_more a p y (omega (arith, ints)) (omega (arith, ints))))
    (omega (arith, ints, divided_by_more a y q (omega (arith, ints)) (omega (arith, ints))))
along_positive (negsuc a) (pos p) (pos q) (pos y) o h k =
    rising (omega (arith, ints, divided_by_more (suc a) p y (omega (arith, ints)) (omega (arith, ints))))
    (omega (arith, ints, divided_by_more (suc a) y q (omega (arith, ints)) (omega (arith, ints))))

-- by negative divisors too
along_negative : (x p q y : ℤ) → q <ℤ pos 0 → p ≤ℤ y → y ≤ℤ q → Between (int_div x p) (int_div x q) (int_div x y)
along_negative x p (pos q) y o h k = absurd (omega (arith, ints))
along_negative x p (negsuc q) (pos y) o h k = absurd k.le
along_negative x (pos p) (negsuc q) (negsuc y) o h k = absurd h.le
along_negative (pos a) (negsuc p) (negsuc q) (negsuc y) o h k =
    falling (omega (arith, ints, divided_by_more a (suc y) (suc p) (omega arith) (omega (arith, ints))))
    (omega (arith, ints, divided_by_more a (suc q) (suc y) (omega arith) (omega (arith, ints))))
along_negative (negsuc a) (negsuc p) (negsuc q) (negsuc y) o h k =
    rising (omega (arith, ints, divided_by_more (suc a) (suc y) (suc p) (omega arith) (omega (arith, ints))))
    (omega (arith, ints, divided_by_more (suc a) (suc q) (suc y) (omega arith) (omega (arith, ints))))

-- ---- a range without 0

-- a range without 0 is positive or negative
pub no_zero : (s : Ends) → in_range s (pos 0) ≡ false → (pos 0 <ℤ s.lo) ⊎ (s.hi <ℤ pos 0)
no_zero s h =
    elim (and_cases (int_le s.lo (pos 0)) (int_le (pos 0) s.hi) h) [
      | inl p ↦ inl (omega (arith, ints))
      | inr p ↦ inr (omega (arith, ints))
    ]

-- its members are not 0
pub not_zero : (s : Ends) (y : ℤ) → in_range s (pos 0) ≡ false → InRange s y → y ≢ pos 0
not_zero s y h m e = elim (no_zero s h) [ inl p ↦ omega (arith, ints) | inr p ↦ omega (arith, ints) ]

-- a quotient lies between those of the ends of the divisor
quotient_along : (x : ℤ) (s : Ends) (y : ℤ) → in_range s (pos 0) ≡ false → InRange s y
    → Between (int_div x s.lo) (int_div x s.hi) (int_div x y)
quotient_along x s y h m =
    elim (no_zero s h) [
      | inl p ↦ along_positive x s.lo s.hi y p m.from_lo m.to_hi
      | inr p ↦ along_negative x s.lo s.hi y p m.from_lo m.to_hi
    ]

-- so the corners hold each quotient
quotient_in : (r s : Ends) (x y : ℤ) → in_range s (pos 0) ≡ false → InRange r x → InRange s y
    → InRange (corners int_div r s) (int_div x y)
quotient_in r s x y h p q =
    corners_hold int_div r s x y (quotient_across r.lo r.hi x y (not_zero s y h q) p.from_lo p.to_hi)
    (quotient_along r.lo s y h q) (quotient_along r.hi s y h q)

-- ---- the rule

-- a divisor that is not 0 has the checked quotient
pub quotient_is : (x y : ℤ) → y ≢ pos 0 → checked (int_div x y) ≡ checked_quotient x y
quotient_is x (pos zero) e = absurd (e refl)
quotient_is x (pos (suc n)) e = refl
quotient_is x (negsuc n) e = refl

-- the range of the quotients is exact
pub quotient_exact : (r s : Ends) → r.lo ≤ℤ r.hi → s.lo ≤ℤ s.hi
    → BoundsExactly checked_quotient r s (quotient_range r s)
quotient_exact r s o p =
    cond_both (in_range s (pos 0)) None (fitting (corners int_div r s)) (BoundsExactly checked_quotient r s)
    (λ z. record {
      bounds = record {
        members = tt;
        none = record {
          x = r.lo;
          y = pos 0;
          x_in = lo_in r o;
          y_in = in_range_out s (pos 0) z;
          is = refl;
        };
      };
      reached = tt;
    })
    (λ h. fitting_exact checked_quotient int_div r s (corners int_div r s)
    (λ x y m n. sym (quotient_is x y (not_zero s y h n)))
    (λ x y m n. quotient_in r s x y h m n) (corners_lo int_div r s o p) (corners_hi int_div r s o p))
