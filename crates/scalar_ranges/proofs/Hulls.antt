-- Hulls of the same ranges.
use Rattle.std.proofs.Common.{◌≡◌, refl, ap, arith}
use Rattle.std.proofs.lemmas.Int.{ints, clamps}
use Rattle.word_arithmetic.specs.Range.{Ends, hull}
use Rattle.scalar_ranges.specs.Entries.{Meaning, Constant, Scalar, Array, Channel, Channels, Procedure}
use Rattle.scalar_ranges.specs.Moves.{hull_meaning}
use Rattle.scalar_ranges.proofs.MoveLaws.{hull_cases}

hull_again : (r s : Ends) → hull (hull r s) s ≡ hull r s
hull_again r s = λ i. record {
  lo = (let e : (hull (hull r s) s).lo ≡ (hull r s).lo = omega (arith, ints, clamps) in e) i;
  hi = (let e : (hull (hull r s) s).hi ≡ (hull r s).hi = omega (arith, ints, clamps) in e) i;
}

hull_itself : (r : Ends) → hull r r ≡ r
hull_itself r = λ i. record {
  lo = (let e : (hull r r).lo ≡ r.lo = omega (arith, ints, clamps) in e) i;
  hi = (let e : (hull r r).hi ≡ r.hi = omega (arith, ints, clamps) in e) i;
}

pub meaning_again : (m n : Meaning) → hull_meaning (hull_meaning m n) n ≡ hull_meaning m n
meaning_again m n =
    hull_cases (λ (a b h : Meaning). hull_meaning h b ≡ h)
    (λ kind k type t r s. ap (Scalar kind type) (hull_again r s)) (λ a b is. is) m n

pub meaning_itself : (m : Meaning) → hull_meaning m m ≡ m
meaning_itself (Scalar kind type r) = ap (Scalar kind type) (hull_itself r)
meaning_itself (Constant type value) = refl
meaning_itself (Array kind type size r) = refl
meaning_itself (Channel type) = refl
meaning_itself (Channels type size) = refl
meaning_itself (Procedure number) = refl
