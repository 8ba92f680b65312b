-- What operators make of numbers in bounds is in their bound.
use Rattle.std.proofs.Common.{◌≡◌, ℕ, ℤ, pos, ◌≤ℤ◌, Bool, true, Option, Some, None, Ok, IsSomeAnd}
use Rattle.std.proofs.Common.{sym, ap, subst, arith, int_le, unsigned_abs}
use Rattle.std.proofs.lemmas.Int.{ints}
use Rattle.std.proofs.lemmas.Bool.{and_parts}
use Rattle.std.proofs.lemmas.Option.{cond_some}
use Rattle.word_arithmetic.specs.Word.{word_not, shifted_left, shifted_right}
use Rattle.word_arithmetic.specs.Range.{Ends, InRange, IsRange, IsWordIn, in_range, is_within, not_range}
use Rattle.word_arithmetic.specs.Range.{shift_left_range}
use Rattle.word_arithmetic.specs.Binary.{computed, result_range}
use Rattle.word_arithmetic.specs.declared.binary.Binary.{Binary}
use Rattle.word_arithmetic.specs.declared.binary.Binary.TheVariants as binary
use Rattle.word_arithmetic.proofs.EndsLaws.{words_in_order_are_ranges, members_lie_between, in_range_in}
use Rattle.word_arithmetic.proofs.BinaryLaws.{binary_holds}
use Rattle.word_arithmetic.proofs.BitLaws.{not_holds, shift_left_holds, shift_right_holds}
use Rattle.occam_parser.specs.declared.tree.ArithmeticPair.{ArithmeticPair}
use Rattle.occam_parser.specs.declared.tree.ArithmeticPair.TheVariants as arithmetic
use Rattle.scalar_ranges.specs.Values.{counts, shifted, pair_value}
use Rattle.scalar_ranges.specs.Bounds.{Bound, Exactly, Within, ends, range_of_bound, ranges_give, gives}
use Rattle.scalar_ranges.specs.Bounds.{by_counts, right_range, arithmetic_bound, not_bound}
use Rattle.scalar_ranges.specs.declared.bounds.TheConstants.{OUT_OF_RANGE}
use Rattle.scalar_ranges.specs.Steps.{both_some}
use Rattle.scalar_ranges.specs.Laws.{IsBound}
use Rattle.scalar_ranges.proofs.Parts.{or_ok, mapped, both_are, ok_same, is_some_of}

-- a number in a bound is between its ends
pub bound_lies : (b : Bound) (v : ℤ) → IsBound b v → InRange (ends b) v
bound_lies (Exactly value) v e = subst (InRange (ends (Exactly value))) (sym e)
    (record { from_lo = omega (arith, ints); to_hi = omega (arith, ints) })
bound_lies (Within range) v m = m

record Lies (r : Ends) (v : ℤ) : Type 0 where
  range : IsRange r
  member : InRange r v

lies : (b : Bound) (v : ℤ) (r : Ends) → IsBound b v → range_of_bound b ≡ Some r → Lies r v
lies b v r is e =
    let m = bound_lies b v is in
    record {
      range = ((words_in_order_are_ranges (ends b).lo (ends b).hi r).0 e).0;
      member = (members_lie_between (ends b).lo (ends b).hi v r e).1 (m.from_lo, m.to_hi);
    }

-- a range holds the results of members
pub record HoldsResults (value : ℤ → ℤ → Option ℤ) (range : Ends → Ends → Option Ends) : Type 0 where
  pub members : (r s t : Ends) → IsRange r → IsRange s → range r s ≡ Some t → (x y : ℤ) → InRange r x → InRange s y
      → IsSomeAnd (value x y) (InRange t)

ranges_hold : (value : ℤ → ℤ → Option ℤ) (range : Ends → Ends → Option Ends) → HoldsResults value range
    → (b c d : Bound) → ranges_give range b c ≡ Ok d → (x y : ℤ) → IsBound b x → IsBound c y
    → IsSomeAnd (value x y) (IsBound d)
ranges_hold value range holds b c d e x y p q =
    let m = mapped Within (both_some (range_of_bound b) (range_of_bound c) range) d (or_ok OUT_OF_RANGE _ d e) in
    let are = both_are (range_of_bound b) (range_of_bound c) range m.0 m.1 in
    let left = lies b x are.0 p are.2 in
    let right = lies c y are.1 q are.3 in
    subst (λ bound. IsSomeAnd (value x y) (IsBound bound)) m.2
    (holds.members are.0 are.1 m.0 left.range right.range are.4 x y left.member right.member)

is_there : (o : Option ℤ) (v : ℤ) (d : Bound) → o ≡ Some v → Exactly v ≡ d → IsSomeAnd o (IsBound d)
is_there None v d e s = absurd (cc)
is_there (Some w) v d e s = subst (λ bound. IsBound bound w) s (cc)

pub gives_hold : (value : ℤ → ℤ → Option ℤ) (range : Ends → Ends → Option Ends) → HoldsResults value range
    → (b c d : Bound) → gives value range b c ≡ Ok d → (x y : ℤ) → IsBound b x → IsBound c y
    → IsSomeAnd (value x y) (IsBound d)
gives_hold value range holds (Exactly v) (Exactly w) d e x y p q =
    let m = mapped Exactly (value v w) d (or_ok OUT_OF_RANGE _ d e) in
    let same : value x y ≡ value v w = cc (p, q) in
    subst (λ o. IsSomeAnd o (IsBound d)) (sym same) (is_there (value v w) m.0 d m.1 m.2)
gives_hold value range holds (Exactly v) (Within s) d e x y p q =
    ranges_hold value range holds (Exactly v) (Within s) d e x y p q
gives_hold value range holds (Within r) c d e x y p q = ranges_hold value range holds (Within r) c d e x y p q

-- ---- each operator

pub binary_members : (op : Binary) → HoldsResults (computed op) (result_range op)
binary_members op = record {
  members = λ r s t p q e x y m n. is_some_of (IsWordIn t) (InRange t) (computed op x y)
      (binary_holds op r s t p q e x y m n) (λ v h. h.member);
}

-- a count between the counts of bits
count_in : (s : Ends) (y : ℤ) → is_within s counts ≡ true → InRange s y → InRange counts y
count_in s y e m =
    let w = and_parts (int_le (pos 0) s.lo) (int_le s.hi (pos 31)) e in
    record { from_lo = omega (arith, ints, w.0); to_hi = omega (arith, ints, w.1) }

shifted_in : (shift : ℤ → ℕ → ℤ) (x y : ℤ) (b : Bool) (t : Ends) → in_range counts y ≡ b → InRange counts y
    → InRange t (shift x (unsigned_abs y)) → IsSomeAnd (shifted shift x y) (InRange t)
shifted_in shift x y b t e m h = rw (in_range_in counts y m) h

shift_members : (shift : ℤ → ℕ → ℤ) (range : Ends → Ends → Ends)
    → ((r s : Ends) → IsRange r → pos 0 ≤ℤ s.lo → (x y : ℤ) → InRange r x → InRange s y
    → InRange (range r s) (shift x (unsigned_abs y)))
    → HoldsResults (shifted shift) (by_counts range)
shift_members shift range holds = record {
  members = λ r s t p q e x y m n.
      let f = cond_some (is_within s counts) (range r s) t e in
      let w = and_parts (int_le (pos 0) s.lo) (int_le s.hi (pos 31)) f.0 in
      shifted_in shift x y true t (in_range_in counts y (count_in s y f.0 n)) (count_in s y f.0 n)
      (subst (λ u. InRange u (shift x (unsigned_abs y))) f.1 (holds r s p (omega (arith, ints, w.0)) x y m n));
}

pub arithmetic_holds : (op : ArithmeticPair) (b c d : Bound) → arithmetic_bound op b c ≡ Ok d → (x y : ℤ)
    → IsBound b x → IsBound c y → IsSomeAnd (pair_value op x y) (IsBound d)
arithmetic_holds arithmetic.Subtract = gives_hold _ _ (binary_members binary.Subtract)
arithmetic_holds arithmetic.Divide = gives_hold _ _ (binary_members binary.Divide)
arithmetic_holds arithmetic.Remainder = gives_hold _ _ (binary_members binary.Remainder)
arithmetic_holds arithmetic.Minus = gives_hold _ _ (binary_members binary.Difference)
arithmetic_holds arithmetic.ShiftLeft = gives_hold _ _ (shift_members shifted_left shift_left_range
    (λ r s p low x y m n. shift_left_holds r s p low x y m n))
arithmetic_holds arithmetic.ShiftRight = gives_hold _ _ (shift_members shifted_right right_range
    (λ r s p low x y m n. shift_right_holds r s p x y m n))

pub not_bound_holds : (b d : Bound) (x : ℤ) → not_bound b ≡ Ok d → IsBound b x → IsBound d (word_not x)
not_bound_holds (Exactly v) d x e p = subst (λ bound. IsBound bound (word_not x)) (ok_same (Exactly (word_not v)) d e)
    (ap word_not p)
not_bound_holds (Within r) d x e p =
    let m = mapped (λ s. Within (not_range s)) (range_of_bound (Within r)) d (or_ok OUT_OF_RANGE _ d e) in
    let in_it = lies (Within r) x m.0 p m.1 in
    subst (λ bound. IsBound bound (word_not x)) m.2 (not_holds m.0 x in_it.range in_it.member)
