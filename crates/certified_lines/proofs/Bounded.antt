-- The bounds of results are constants, or have the ranges that results have.
use Rattle.std.proofs.Common.{◌≡◌, ℕ, ◌⊎◌, inl, inr, ℤ, pos, negsuc, ◌≤ℤ◌, Bool, true, false, cond, Option, Some}
use Rattle.std.proofs.Common.{None, Ok}
use Rattle.std.proofs.Common.{FitsSigned, refl, sym, ap, subst, ◌∙◌, arith}
use Rattle.std.specs.Prelude.{IfSome, ◌*ℤ◌, ◌^◌, unsigned_abs, unwrap_or}
use Rattle.std.specs.Int.{w32}
use Rattle.std.proofs.lemmas.Int.{ints}
use Rattle.std.proofs.lemmas.Option.{cond_some}
use Rattle.word_arithmetic.specs.Word.{word_not, shifted_left, shifted_right}
use Rattle.word_arithmetic.specs.Range as ranges
use Rattle.word_arithmetic.specs.Range.{Ends, IsRange, full, fitting, range_between, is_within, is_not_negative}
use Rattle.word_arithmetic.specs.Range.{zero_to, not_range, shift_left_range, shift_right_range}
use Rattle.word_arithmetic.specs.Binary.{computed, result_range}
use Rattle.word_arithmetic.specs.declared.binary.Binary.{Binary}
use Rattle.word_arithmetic.specs.declared.binary.Binary.TheVariants as binary
use Rattle.word_arithmetic.proofs.BinaryLaws.{binary_gives_words}
use Rattle.word_arithmetic.proofs.BitLaws.{not_fits}
use Rattle.word_arithmetic.proofs.EndsLaws.{words_in_order_are_ranges, fitting_some}
use Rattle.word_arithmetic.proofs.RangesOfRanges.{binary_gives_ranges}
use Rattle.occam_parser.specs.declared.tree.ArithmeticPair.{ArithmeticPair}
use Rattle.occam_parser.specs.declared.tree.ArithmeticPair.TheVariants as arithmetic
use Rattle.occam_parser.specs.declared.tree.ArithmeticChain.{ArithmeticChain}
use Rattle.occam_parser.specs.declared.tree.ChainOperator.TheVariants as chain
use Rattle.occam_parser.specs.declared.tree.PrefixOperator.TheVariants as prefix
use Rattle.scalar_ranges.specs.Bounds.{Bound, Exactly, Within, ends, range_of_bound, ranges_give, gives, by_counts}
use Rattle.scalar_ranges.specs.Bounds.{right_range, arithmetic_bound, binary_bound, chain_bound}
use Rattle.scalar_ranges.specs.Bounds.{prefix_bound}
use Rattle.scalar_ranges.specs.Steps.{both_some}
use Rattle.scalar_ranges.specs.Values.{operation_of, counts, shifted}
use Rattle.scalar_ranges.proofs.Parts.{or_ok, mapped, both_are, ok_same}
use Rattle.program_meaning.proofs.ValuesTyped.{arithmetic_word}
use Rattle.certified_lines.specs.OperandLaws.{pair_range, chain_range, prefix_range}
use Rattle.certified_lines.proofs.Ranges.{constant_ranged}
use Rattle.certified_lines.proofs.Ranges.{full_ranged}

-- ---- a bound is a constant, or a range

-- A bound is a constant that is a word, or a range of which this holds.
pub record IsExact (d : Bound) : Type 0 where
  pub value : ℤ
  pub is : d ≡ Exactly value
  pub fits : FitsSigned w32 value

pub record IsWithin (P : Ends → Type 0) (d : Bound) : Type 0 where
  pub range : Ends
  pub is : d ≡ Within range
  pub holds : P range

abbrev pub IsEither : (Ends → Type 0) → Bound → Type 0
IsEither P d = IsExact d ⊎ IsWithin P d

range_between_is : (lo hi : ℤ) (r : Ends) → range_between lo hi ≡ Some r → r ≡ record { lo = lo; hi = hi }
range_between_is lo hi r is =
    let parts = (words_in_order_are_ranges lo hi r).0 is in
    λ i. record { lo = parts.1 i; hi = parts.2 i }

-- the range of a bound is that between its ends
bound_range : (b : Bound) (r : Ends) → range_of_bound b ≡ Some r → r ≡ ends b
bound_range b r is = range_between_is (ends b).lo (ends b).hi r is

pub ranges_give_is : (range : Ends → Ends → Option Ends) (b c d : Bound) → ranges_give range b c ≡ Ok d
    → IsWithin (λ q. range (ends b) (ends c) ≡ Some q) d
ranges_give_is range b c d is =
    let some = mapped Within (both_some (range_of_bound b) (range_of_bound c) range) d (or_ok _ _ d is) in
    let both = both_are (range_of_bound b) (range_of_bound c) range some.0 some.1 in
    record {
      range = some.0;
      is = sym some.2;
      holds = (λ i. range (sym (bound_range b both.0 both.2) i) (sym (bound_range c both.1 both.3) i)) ∙ both.4;
    }

some_value : (P : ℤ → Type 0) (o : Option ℤ) (v : ℤ) → o ≡ Some v → IfSome o P → P v
some_value P o v is h = subst (λ o. IfSome o P) is h

gives_is : (value : ℤ → ℤ → Option ℤ) (range : Ends → Ends → Option Ends)
    → ((x y : ℤ) → FitsSigned w32 x → FitsSigned w32 y → IfSome (value x y) (FitsSigned w32)) → (b c d : Bound)
    → IsRange (ends b) → IsRange (ends c) → gives value range b c ≡ Ok d
    → IsEither (λ q. range (ends b) (ends c) ≡ Some q) d
gives_is value range word (Exactly x) (Exactly y) d h k is =
    let some = mapped Exactly (value x y) d (or_ok _ _ d is) in
    inl (record {
      value = some.0;
      is = sym some.2;
      fits = some_value (FitsSigned w32) (value x y) some.0 some.1 (word x y h.lo_fits k.lo_fits);
    })
gives_is value range word (Exactly x) (Within s) d h k is = inr (ranges_give_is range (Exactly x) (Within s) d is)
gives_is value range word (Within r) c d h k is = inr (ranges_give_is range (Within r) c d is)

binary_is : (op : Binary) (b c d : Bound) → IsRange (ends b) → IsRange (ends c) → binary_bound op b c ≡ Ok d
    → IsEither (λ q. result_range op (ends b) (ends c) ≡ Some q) d
binary_is op b c d h k is = gives_is (computed op) (result_range op) (binary_gives_words op) b c d h k is

pub arithmetic_is : (op : ArithmeticPair) (b c d : Bound) → IsRange (ends b) → IsRange (ends c)
    → arithmetic_bound op b c ≡ Ok d → IsEither (λ q. pair_range op (ends b) (ends c) ≡ Some q) d
arithmetic_is arithmetic.Subtract b c d h k is = binary_is binary.Subtract b c d h k is
arithmetic_is arithmetic.Divide b c d h k is = binary_is binary.Divide b c d h k is
arithmetic_is arithmetic.Remainder b c d h k is = binary_is binary.Remainder b c d h k is
arithmetic_is arithmetic.Minus b c d h k is = binary_is binary.Difference b c d h k is
arithmetic_is arithmetic.ShiftLeft b c d h k is =
    gives_is (shifted shifted_left) (by_counts shift_left_range) (arithmetic_word arithmetic.ShiftLeft) b c d h k is
arithmetic_is arithmetic.ShiftRight b c d h k is =
    gives_is (shifted shifted_right) (by_counts right_range) (arithmetic_word arithmetic.ShiftRight) b c d h k is

pub chain_is : (op : ArithmeticChain) (b c d : Bound) → IsRange (ends b) → IsRange (ends c)
    → chain_bound (chain.Arithmetic op) b c ≡ Ok d
    → IsEither (λ q. chain_range (chain.Arithmetic op) (ends b) (ends c) ≡ Some q) d
chain_is op b c d h k is = binary_is (operation_of op) b c d h k is

zero_ranged : IsRange (ends (Exactly (pos 0)))
zero_ranged = constant_ranged (pos 0) (omega (arith, ints))

pub negate_is : (b d : Bound) → IsRange (ends b) → prefix_bound prefix.Negate b ≡ Ok d
    → IsEither (λ q. prefix_range prefix.Negate (ends b) ≡ Some q) d
negate_is b d h is = binary_is binary.Subtract (Exactly (pos 0)) b d zero_ranged h is

pub bit_not_is : (b d : Bound) → IsRange (ends b) → prefix_bound prefix.BitNot b ≡ Ok d
    → IsEither (λ q. prefix_range prefix.BitNot (ends b) ≡ Some q) d
bit_not_is (Exactly x) d h is =
    inl (record {
      value = word_not x;
      is = sym (ok_same (Exactly (word_not x)) d is);
      fits = not_fits x h.lo_fits;
    })
bit_not_is (Within r) d h is =
    let some = mapped (λ s. Within (not_range s)) (range_of_bound (Within r)) d (or_ok _ _ d is) in
    inr (record {
      range = not_range some.0;
      is = sym some.2;
      holds = ap (λ (e : Ends). Some (not_range e)) (sym (bound_range (Within r) some.0 some.1));
    })

-- ---- ranges of words

zero_to_ranged : (v : ℤ) → FitsSigned w32 v → pos 0 ≤ℤ v → IsRange (zero_to v)
zero_to_ranged v fits low = record { lo_fits = omega (arith, ints); hi_fits = fits; ordered = low }

product_low : (a : ℤ) (m : ℕ) → pos 0 ≤ℤ a → pos 0 ≤ℤ (a *ℤ pos m)
product_low (pos n) m low = omega (arith, ints)
product_low (negsuc n) m low = absurd (omega (arith, ints, low))

fitting_or_full : (e : Ends) (o : Option Ends) → fitting e ≡ o → e.lo ≤ℤ e.hi → IsRange (unwrap_or o full)
fitting_or_full e None is order = full_ranged
fitting_or_full e (Some t) is order =
    let f = fitting_some e t is in
    subst IsRange f.same (record { lo_fits = f.lo; hi_fits = f.hi; ordered = order })

left_ranged : (r s : Ends) → IsRange r → IsRange (shift_left_range r s)
left_ranged r s h = by_sign (is_not_negative r) refl
  where
    by_sign : (t : Bool) → is_not_negative r ≡ t
        → IsRange (cond t (unwrap_or (fitting (zero_to (r.hi *ℤ pos (2 ^ unsigned_abs s.hi)))) full) full)
    by_sign true is =
        let order = h.ordered in
        fitting_or_full (zero_to (r.hi *ℤ pos (2 ^ unsigned_abs s.hi))) _ refl
        (product_low r.hi (2 ^ unsigned_abs s.hi) (omega (arith, ints, is, order)))
    by_sign false is = full_ranged

right_ranged : (r : Ends) → IsRange r → IsRange (shift_right_range r)
right_ranged r h = by_sign (is_not_negative r) refl
  where
    by_sign : (t : Bool) → is_not_negative r ≡ t → IsRange (cond t (zero_to r.hi) full)
    by_sign true is = let order = h.ordered in zero_to_ranged r.hi h.hi_fits (omega (arith, ints, is, order))
    by_sign false is = full_ranged

-- the range of the results of ranges is one
pub pair_ranged : (op : ArithmeticPair) (r s q : Ends) → IsRange r → IsRange s → pair_range op r s ≡ Some q → IsRange q
pair_ranged arithmetic.Subtract r s q h k is = binary_gives_ranges binary.Subtract r s q h k is
pair_ranged arithmetic.Divide r s q h k is = binary_gives_ranges binary.Divide r s q h k is
pair_ranged arithmetic.Remainder r s q h k is = binary_gives_ranges binary.Remainder r s q h k is
pair_ranged arithmetic.Minus r s q h k is = binary_gives_ranges binary.Difference r s q h k is
pair_ranged arithmetic.ShiftLeft r s q h k is =
    subst IsRange (cond_some (is_within s counts) (shift_left_range r s) q is).1 (left_ranged r s h)
pair_ranged arithmetic.ShiftRight r s q h k is =
    subst IsRange (cond_some (is_within s counts) (right_range r s) q is).1 (right_ranged r h)

pub negate_ranged : (r q : Ends) → IsRange r → prefix_range prefix.Negate r ≡ Some q → IsRange q
negate_ranged r q h is = binary_gives_ranges binary.Subtract (ranges.constant (pos 0)) r q zero_ranged h is

pub chain_ranged : (op : ArithmeticChain) (r s q : Ends) → IsRange r → IsRange s
    → chain_range (chain.Arithmetic op) r s ≡ Some q → IsRange q
chain_ranged op r s q h k is = binary_gives_ranges (operation_of op) r s q h k is
