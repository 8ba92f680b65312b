-- A remainder has the sign of the dividend, is no larger than it, and is smaller than the divisor.
use Rattle.std.proofs.Common.{◌≡◌, ◌≢◌, ℕ, zero, suc, ◌/◌, ◌%◌, ◌<◌, ◌≤◌, inl, inr, ⊎_elim, true, false, ◌&&◌}
use Rattle.std.proofs.Common.{cond, ap, refl, sym, subst, ◌∙◌, arith, Option, Some, None, IsSomeAnd, is_some, ℤ}
use Rattle.std.proofs.Common.{pos, negsuc, ◌-ℤ◌, ◌≤ℤ◌, int_div, int_rem, int_le, unsigned_abs, FitsSigned, div-le_self}
use Rattle.std.proofs.Common.{max}
use Rattle.std.specs.Int.{w32, int_min, int_max}
use Rattle.std.proofs.lemmas.Int.{ints, clamps}
use Rattle.std.proofs.lemmas.Bool.{or_cases, both_ways, cond_both, and_parts, and_cases, or_parts}
use Rattle.std.proofs.lemmas.Nat.{mod_below}
use Rattle.std.proofs.Math.Nat.{mod-le}
use Rattle.word_arithmetic.specs.Word.{checked_remainder, least_word}
use Rattle.word_arithmetic.specs.Range.{Ends, InRange, IsRange, BoundsResults, in_range, can_fail_to_divide}
use Rattle.word_arithmetic.specs.Range.{greatest_size, lowest_remainder, highest_remainder, remainder_ends}
use Rattle.word_arithmetic.specs.Range.{remainder_range}
use Rattle.word_arithmetic.proofs.WordLaws.{checked_fits}
use Rattle.word_arithmetic.proofs.EndsLaws.{lo_in, fits_between, in_range_in, in_range_out}
use Rattle.word_arithmetic.proofs.QuotientLaws.{divided_by_more, not_zero, quotient_is}

-- ---- the quotient of a word fits, but for MostNeg by -1

-- a number below 2^31 is a word
fits_positive : (n : ℕ) → n < 2147483648 → FitsSigned w32 (pos n)
fits_positive n h = record { sfits = h }

-- the quotient of a word by a word is one too, but for MostNeg by -1
quotient_fits : (x y : ℤ) → FitsSigned w32 x → y ≢ pos 0 → (x ≡ least_word → y ≢ negsuc 0)
    → FitsSigned w32 (int_div x y)
quotient_fits x (pos zero) f e n = absurd (e refl)
quotient_fits (pos a) (pos (suc b)) f e n = omega (arith, ints, div-le_self a (suc b))
quotient_fits (negsuc a) (pos (suc b)) f e n = omega (arith, ints, div-le_self (suc a) (suc b))
quotient_fits (pos a) (negsuc b) f e n = omega (arith, ints, div-le_self a (suc b))
quotient_fits (negsuc a) (negsuc zero) f e n =
    let h = f.sfits in
    let apart : a ≢ 2147483647 = λ same. n (ap negsuc same) refl in
    fits_positive (suc a / 1) (omega arith)
quotient_fits (negsuc a) (negsuc (suc b)) f e n =
    fits_positive (suc a / suc (suc b)) (let h = f.sfits in
    omega (arith, divided_by_more (suc a) 2 (suc (suc b)) (omega arith) (omega arith)))

-- ---- what the rule rules out

-- no divisor is 0, and no members are MostNeg and -1
record IsSafe (r s : Ends) : Type 0 where
  no_zero : in_range s (pos 0) ≡ false
  -- no members are MostNeg and -1
  no_overflow : (in_range r least_word && in_range s (negsuc 0)) ≡ false

-- where the rule has a range, all members have a quotient
safe_out : (r s : Ends) → (can_fail_to_divide r s) ≡ false → IsSafe r s
safe_out r s h = let w = or_parts _ _ h in record { no_zero = w.0; no_overflow = w.1 }

no_overflow : (r s : Ends) (x y : ℤ) → IsSafe r s → InRange r x → InRange s y → x ≡ least_word → y ≢ negsuc 0
no_overflow r s x y h p q e k =
    elim (and_cases _ _ h.no_overflow) [
      | inl a ↦ both_ways _ a (subst (λ v. in_range r v ≡ true) e (in_range_in r x p))
      | inr b ↦ both_ways _ b (subst (λ v. in_range s v ≡ true) k (in_range_in s y q))
    ]

-- so the checked remainder is the remainder
remainder_is : (r s : Ends) (x y : ℤ) → IsRange r → IsSafe r s → InRange r x → InRange s y
    → checked_remainder x y ≡ Some (int_rem x y)
remainder_is r s x y g h p q =
    let apart = not_zero s y h.no_zero q in
    let fits = quotient_fits x y (fits_between r x g.lo_fits g.hi_fits p) apart (no_overflow r s x y h p q) in
    ap (λ o. cond (is_some o) (Some (int_rem x y)) None) (sym (quotient_is x y apart) ∙ checked_fits (int_div x y) fits)

-- ---- the bounds

-- a divisor is no larger than the greatest size
size_between : (l h y : ℤ) → l ≤ℤ y → y ≤ℤ h → unsigned_abs y ≤ max (unsigned_abs l) (unsigned_abs h)
size_between l (pos h) (pos y) p q = omega (arith, ints)
size_between l (negsuc h) (pos y) p q = absurd q.le
size_between (pos l) h (negsuc y) p q = absurd p.le
size_between (negsuc l) h (negsuc y) p q = omega (arith, ints)

-- a number that is not 0 has a size above 0
some_divisor : (y : ℤ) → y ≢ pos 0 → 0 < unsigned_abs y
some_divisor (pos zero) e = absurd (e refl)
some_divisor (pos (suc n)) e = omega arith
some_divisor (negsuc n) e = omega arith

-- a remainder is at least the lower bound
lower : (l x : ℤ) (n size : ℕ) (y : ℤ) → l ≤ℤ x → n ≡ unsigned_abs y → 0 < n → n ≤ size
    → lowest_remainder l size ≤ℤ int_rem x y
lower l (pos a) n size y h e p q =
    cond_both (int_le (pos 0) l) (pos 0) (int_max l (pos 1 -ℤ pos size)) (λ z. z ≤ℤ int_rem (pos a) y)
    (λ t. omega (arith, ints)) (λ t. omega (arith, ints, clamps))
lower l (negsuc a) n size y h e p q =
    let small : suc a % unsigned_abs y < size = omega (arith, mod_below (suc a) (unsigned_abs y) (omega arith)) in
    let below = mod-le (suc a) (unsigned_abs y) in
    cond_both (int_le (pos 0) l) (pos 0) (int_max l (pos 1 -ℤ pos size)) (λ z. z ≤ℤ int_rem (negsuc a) y)
    (λ t. omega (arith, ints)) (λ t. omega (arith, ints, clamps))

-- and at most the upper one
upper : (h x : ℤ) (n size : ℕ) (y : ℤ) → x ≤ℤ h → n ≡ unsigned_abs y → 0 < n → n ≤ size
    → int_rem x y ≤ℤ highest_remainder h size
upper h (pos a) n size y k e p q =
    let small : a % unsigned_abs y < size = omega (arith, mod_below a (unsigned_abs y) (omega arith)) in
    let below = mod-le a (unsigned_abs y) in
    cond_both (int_le h (pos 0)) (pos 0) (int_min h (pos size -ℤ pos 1)) (λ z. int_rem (pos a) y ≤ℤ z)
    (λ t. omega (arith, ints)) (λ t. omega (arith, ints, clamps))
upper h (negsuc a) n size y k e p q =
    cond_both (int_le h (pos 0)) (pos 0) (int_min h (pos size -ℤ pos 1)) (λ z. int_rem (negsuc a) y ≤ℤ z)
    (λ t. omega (arith, ints)) (λ t. omega (arith, ints, clamps))

-- so it lies between the bounds
remainder_in : (r : Ends) (x y : ℤ) (size : ℕ) → InRange r x → y ≢ pos 0 → unsigned_abs y ≤ size
    → InRange (remainder_ends r size) (int_rem x y)
remainder_in r x y size m e h =
    let some = some_divisor y e in
    record {
      from_lo = lower r.lo x (unsigned_abs y) size y m.from_lo refl some h;
      to_hi = upper r.hi x (unsigned_abs y) size y m.to_hi refl some h;
    }

-- the range of the remainders bounds them
pub remainder_bounds : (r s : Ends) → IsRange r → BoundsResults checked_remainder r s (remainder_range r s)
remainder_bounds r s g =
    cond_both (can_fail_to_divide r s) None (Some (remainder_ends r (greatest_size s)))
    (BoundsResults checked_remainder r s)
    (λ z. record {
      members = tt;
      none = ⊎_elim
          (λ zero. record {
            x = r.lo;
            y = pos 0;
            x_in = lo_in r g.ordered;
            y_in = in_range_out s (pos 0) zero;
            is = refl;
          })
          (λ both. let w = and_parts _ _ both in record {
            x = least_word;
            y = negsuc 0;
            x_in = in_range_out r least_word w.0;
            y_in = in_range_out s (negsuc 0) w.1;
            is = refl;
          })
          (or_cases _ _ z);
    })
    (λ h. let safe = safe_out r s h in record {
      members = λ x y p q.
          subst (λ o. IsSomeAnd o (InRange (remainder_ends r (greatest_size s))))
          (sym (remainder_is r s x y g safe p q))
          (remainder_in r x y (greatest_size s) p (not_zero s y safe.no_zero q)
          (size_between s.lo s.hi y q.from_lo q.to_hi));
      none = tt;
    })

-- and so does what follows the rule
pub remainder_by_rule : (r s : Ends) (range : Option Ends) → FitsSigned w32 r.lo → FitsSigned w32 r.hi → r.lo ≤ℤ r.hi
    → range ≡ remainder_range r s → BoundsResults checked_remainder r s range
remainder_by_rule r s range f g o h =
    subst (BoundsResults checked_remainder r s) (sym h)
    (remainder_bounds r s (record { lo_fits = f; hi_fits = g; ordered = o }))
