-- The corners of two ranges bound what is monotone in each operand; so they bound products and quotients.
use Rattle.std.proofs.Common.{ℕ, suc, ◌+◌, ◌≤◌, ◌⊎◌, inl, inr, refl, sym, subst, arith, ℤ, pos, negsuc, ◌*ℤ◌, ◌≤ℤ◌}
use Rattle.std.proofs.Common.{int_lt, mul-le-mul_left}
use Rattle.std.specs.Int.{int_min, int_max}
use Rattle.std.proofs.Math.IntN.{*ℤ_comm}
use Rattle.std.proofs.lemmas.Bool.{cases_cond}
use borrow.Author.Differences.{up, down}
use Rattle.std.proofs.lemmas.Int.{ints, clamps}
use Rattle.word_arithmetic.specs.Word.{checked_product}
use Rattle.word_arithmetic.specs.Range.{Ends, InRange, BoundsExactly, corners, product_range}
use Rattle.word_arithmetic.proofs.EndsLaws.{lo_in, hi_in}
use Rattle.word_arithmetic.proofs.SumLaws.{AtMembers, at_members, fitting_exact}

-- z lies between p and q, which may be in either order
pub record Between (p q z : ℤ) : Type 0 where
  pub above : (p ≤ℤ z) ⊎ (q ≤ℤ z)
  pub below : (z ≤ℤ p) ⊎ (z ≤ℤ q)

-- it does where the order is kept
pub rising : {p q z : ℤ} → p ≤ℤ z → z ≤ℤ q → Between p q z
rising h k = record { above = inl h; below = inr k }

-- and where it is turned
pub falling : {p q z : ℤ} → z ≤ℤ p → q ≤ℤ z → Between p q z
falling h k = record { above = inr k; below = inl h }

-- the least and the greatest of four numbers
four_lo : (a b c d : ℤ) → let m = int_min (int_min a b) (int_min c d) in (m ≤ℤ a) × (m ≤ℤ b) × (m ≤ℤ c) × (m ≤ℤ d)
four_lo a b c d =
    (omega (arith, ints, clamps), omega (arith, ints, clamps), omega (arith, ints, clamps), omega (arith, ints, clamps))

four_hi : (a b c d : ℤ) → let m = int_max (int_max a b) (int_max c d) in (a ≤ℤ m) × (b ≤ℤ m) × (c ≤ℤ m) × (d ≤ℤ m)
four_hi a b c d =
    (omega (arith, ints, clamps), omega (arith, ints, clamps), omega (arith, ints, clamps), omega (arith, ints, clamps))

-- what lies below both ends lies below what is between them
from_above : {p q z m : ℤ} → Between p q z → m ≤ℤ p → m ≤ℤ q → m ≤ℤ z
from_above b h k = elim b.above [ inl a ↦ omega (arith, ints) | inr a ↦ omega (arith, ints) ]

-- what lies above both ends lies above what is between them
from_below : {p q z m : ℤ} → Between p q z → p ≤ℤ m → q ≤ℤ m → z ≤ℤ m
from_below b h k = elim b.below [ inl a ↦ omega (arith, ints) | inr a ↦ omega (arith, ints) ]

-- where f lies between its results along each side, the corners hold it
pub corners_hold : (f : ℤ → ℤ → ℤ) (r s : Ends) (x y : ℤ) → Between (f r.lo y) (f r.hi y) (f x y)
    → Between (f r.lo s.lo) (f r.lo s.hi) (f r.lo y) → Between (f r.hi s.lo) (f r.hi s.hi) (f r.hi y)
    → InRange (corners f r s) (f x y)
corners_hold f r s x y across left right =
    let lo = four_lo (f r.lo s.lo) (f r.lo s.hi) (f r.hi s.lo) (f r.hi s.hi) in
    let hi = four_hi (f r.lo s.lo) (f r.lo s.hi) (f r.hi s.lo) (f r.hi s.hi) in
    record {
      from_lo = from_above across (from_above left lo.0 lo.1) (from_above right lo.2 lo.3);
      to_hi = from_below across (from_below left hi.0 hi.1) (from_below right hi.2 hi.3);
    }

-- ---- products

-- to multiply by a number keeps the order of two numbers, or turns it
scaled_up : (n : ℕ) (a b : ℤ) → a ≤ℤ b → (a *ℤ pos n) ≤ℤ (b *ℤ pos n)
scaled_up n a b h =
    let e : up a + down b ≤ up b + down a = omega (arith, ints) in
    omega (arith, ints, mul-le-mul_left n e)

scaled_down : (n : ℕ) (a b : ℤ) → a ≤ℤ b → (b *ℤ negsuc n) ≤ℤ (a *ℤ negsuc n)
scaled_down n a b h =
    let e : up a + down b ≤ up b + down a = omega (arith, ints) in
    omega (arith, ints, mul-le-mul_left (suc n) e)

-- a product lies between those of the ends of the first factor
product_across : (p q x y : ℤ) → p ≤ℤ x → x ≤ℤ q → Between (p *ℤ y) (q *ℤ y) (x *ℤ y)
product_across p q x (pos n) h k = rising (scaled_up n p x h) (scaled_up n x q k)
product_across p q x (negsuc n) h k = falling (scaled_down n p x h) (scaled_down n x q k)

-- and between those of the ends of the second
product_along : (x p q y : ℤ) → p ≤ℤ y → y ≤ℤ q → Between (x *ℤ p) (x *ℤ q) (x *ℤ y)
product_along x p q y h k =
    subst (λ z. Between z (x *ℤ q) (x *ℤ y)) (*ℤ_comm p x)
    (subst (λ z. Between (p *ℤ x) z (x *ℤ y)) (*ℤ_comm q x)
    (subst (λ z. Between (p *ℤ x) (q *ℤ x) z) (*ℤ_comm y x) (product_across p q y x h k)))

-- so the corners hold each product
product_in : (r s : Ends) (x y : ℤ) → InRange r x → InRange s y → InRange (corners (λ x y. x *ℤ y) r s) (x *ℤ y)
product_in r s x y p q =
    corners_hold (λ x y. x *ℤ y) r s x y
    (product_across r.lo r.hi x y p.from_lo p.to_hi)
    (product_along r.lo s.lo s.hi y q.from_lo q.to_hi)
    (product_along r.hi s.lo s.hi y q.from_lo q.to_hi)

-- each end of the corners is the result of two ends
least_of : (P : ℤ → Type 0) (a b : ℤ) → P a → P b → P (int_min a b)
least_of P a b p q =
    elim (cases_cond (int_lt b a) b a (int_min a b) refl) [ inl e ↦ subst P (sym e) q | inr e ↦ subst P (sym e) p ]

greatest_of : (P : ℤ → Type 0) (a b : ℤ) → P a → P b → P (int_max a b)
greatest_of P a b p q =
    elim (cases_cond (int_lt b a) a b (int_max a b) refl) [ inl e ↦ subst P (sym e) p | inr e ↦ subst P (sym e) q ]

-- what takes one of each two numbers takes the result of members from those of the ends
module _ (f : ℤ → ℤ → ℤ) (r s : Ends) (o : r.lo ≤ℤ r.hi) (p : s.lo ≤ℤ s.hi) where
  one_of_four : (pick : ℤ → ℤ → ℤ) → ((P : ℤ → Type 0) (a b : ℤ) → P a → P b → P (pick a b))
      → AtMembers f r s (pick (pick (f r.lo s.lo) (f r.lo s.hi)) (pick (f r.hi s.lo) (f r.hi s.hi)))
  one_of_four pick one_of =
      let at = λ (x y : ℤ) (h : InRange r x) (k : InRange s y). at_members f r s x y h k in
      one_of (AtMembers f r s) _ _
      (one_of (AtMembers f r s) _ _ (at r.lo s.lo (lo_in r o) (lo_in s p)) (at r.lo s.hi (lo_in r o) (hi_in s p)))
      (one_of (AtMembers f r s) _ _ (at r.hi s.lo (hi_in r o) (lo_in s p)) (at r.hi s.hi (hi_in r o) (hi_in s p)))

  -- so the ends of the corners are results of members
  pub corners_lo : AtMembers f r s (corners f r s).lo
  corners_lo = one_of_four int_min least_of

  pub corners_hi : AtMembers f r s (corners f r s).hi
  corners_hi = one_of_four int_max greatest_of

-- the range of the products is exact
pub product_exact : (r s : Ends) → r.lo ≤ℤ r.hi → s.lo ≤ℤ s.hi → BoundsExactly checked_product r s (product_range r s)
product_exact r s o p =
    fitting_exact checked_product (λ x y. x *ℤ y) r s (corners (λ x y. x *ℤ y) r s) (λ x y m n. refl) (product_in r s)
    (corners_lo (λ x y. x *ℤ y) r s o p) (corners_hi (λ x y. x *ℤ y) r s o p)
