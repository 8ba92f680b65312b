-- The range of the results of ranges is one: its ends are words, in order.
use Rattle.std.proofs.Common.{◌≡◌, ℕ, ◌&&◌, Bool, true, false, cond, Option, Some, None, unwrap_or, refl, sym, subst}
use Rattle.std.proofs.Common.{ap}
use Rattle.std.proofs.Common.{ℤ, pos, negsuc, ◌+ℤ◌, ◌-ℤ◌, ◌*ℤ◌, ◌≤ℤ◌, int_le, int_div, FitsSigned, IsSomeAnd, arith}
use Rattle.std.specs.Int.{w32, int_min, int_max}
use Rattle.std.proofs.lemmas.Int.{ints, clamps}
use Rattle.std.proofs.lemmas.Bool.{cond_both, and_parts}
use Rattle.word_arithmetic.specs.Word.{word_and, word_or, word_xor}
use Rattle.word_arithmetic.specs.Range.{Ends, IsRange, IsWordIn, fitting, full, truths, constant, zero_to, in_range}
use Rattle.word_arithmetic.specs.Range.{is_constant, is_not_negative, corners}
use Rattle.word_arithmetic.specs.Range.{can_fail_to_divide}
use Rattle.word_arithmetic.specs.Range.{remainder_ends, greatest_size, bits_range, all_ones, not_range}
use Rattle.word_arithmetic.specs.Binary.{computed, result_range, BinaryGivesRanges}
use Rattle.word_arithmetic.specs.Unary.{unary_computed, unary_result_range, UnaryGivesRanges}
use Rattle.word_arithmetic.specs.declared.binary.Binary.{Binary}
use Rattle.word_arithmetic.specs.declared.binary.Binary.TheVariants as binary
use Rattle.word_arithmetic.specs.declared.unary.Unary.{Unary}
use Rattle.word_arithmetic.specs.declared.unary.Unary.TheVariants as unary
use Rattle.word_arithmetic.proofs.EndsLaws.{fitting_some, lo_in}
use Rattle.word_arithmetic.proofs.BitLaws.{and_fits, or_fits, xor_fits, all_ones_is, ones_small}
use Rattle.word_arithmetic.proofs.BinaryLaws.{binary_holds}
use Rattle.word_arithmetic.proofs.UnaryLaws.{unary_gives_words, unary_holds}

record AreWords (t : Ends) : Type 0 where
  lo : FitsSigned w32 t.lo
  hi : FitsSigned w32 t.hi

-- ends that have a number between them are in order
in_order : (o : Option ℤ) (t : Ends) → IsSomeAnd o (IsWordIn t) → t.lo ≤ℤ t.hi
in_order None t h = absurd h
in_order (Some v) t h =
    let low = h.member.from_lo in let high = h.member.to_hi in omega (arith, ints)

-- ---- the forms that ranges of results have

full_words : AreWords full
full_words = record { lo = omega (arith, ints); hi = omega (arith, ints) }

constant_words : (v : ℤ) → FitsSigned w32 v → AreWords (constant v)
constant_words v f = record { lo = f; hi = f }

zero_words : (v : ℤ) → FitsSigned w32 v → AreWords (zero_to v)
zero_words v f = record { lo = omega (arith, ints); hi = f }

fitting_words : (e t : Ends) → fitting e ≡ Some t → AreWords t
fitting_words e t h = let f = fitting_some e t h in subst AreWords f.same (record { lo = f.lo; hi = f.hi })

or_full_words : (e : Ends) → AreWords (unwrap_or (fitting e) full)
or_full_words e = of_option (fitting e) refl
  where
    of_option : (o : Option Ends) → fitting e ≡ o → AreWords (unwrap_or o full)
    of_option None h = full_words
    of_option (Some t) h = fitting_words e t h

-- what is there unless a test holds
unless : (b : Bool) (o : Option Ends) (t : Ends) → cond b None o ≡ Some t → o ≡ Some t
unless true o t h = absurd (cc)
unless false o t h = h

some_words : (e t : Ends) → Some e ≡ Some t → AreWords e → AreWords t
some_words e t h w = subst AreWords (unwrapped e t h) w
  where
    unwrapped : (e t : Ends) → Some e ≡ Some t → e ≡ t
    unwrapped e t h = ap (λ o. unwrap_or o e) h

-- ---- remainders and bits

remainder_words : (r : Ends) (size : ℕ) → IsRange r → AreWords (remainder_ends r size)
remainder_words r size p = record {
  lo = let f = p.lo_fits in cond_both (int_le (pos 0) r.lo) (pos 0) (int_max r.lo (pos 1 -ℤ pos size)) (FitsSigned w32)
      (λ e. omega (arith, ints)) (λ e. omega (arith, ints, clamps));
  hi = let f = p.hi_fits in cond_both (int_le r.hi (pos 0)) (pos 0) (int_min r.hi (pos size -ℤ pos 1)) (FitsSigned w32)
      (λ e. omega (arith, ints)) (λ e. omega (arith, ints, clamps));
}

-- all ones of a word that is not negative is a word
all_ones_fits : (v : ℤ) → FitsSigned w32 v → pos 0 ≤ℤ v → FitsSigned w32 (all_ones v)
all_ones_fits (pos m) f h =
    let small = ones_small m f.sfits in subst (FitsSigned w32) (sym (all_ones_is m f.sfits)) (omega (arith, ints))
all_ones_fits (negsuc m) f h = absurd h.le

-- so is that of the greater of two upper ends
top : (r s : Ends) → IsRange r → IsRange s → pos 0 ≤ℤ r.lo → pos 0 ≤ℤ s.lo
    → FitsSigned w32 (all_ones (int_max r.hi s.hi))
top r s p q a b =
    let f = p.hi_fits in let g = q.hi_fits in let o = p.ordered in
    all_ones_fits (int_max r.hi s.hi) (omega (arith, ints, clamps)) (omega (arith, ints, clamps))

bits_words : (of_constants hi : ℤ) (r s : Ends) → FitsSigned w32 of_constants
    → (pos 0 ≤ℤ r.lo → pos 0 ≤ℤ s.lo → FitsSigned w32 hi) → AreWords (bits_range of_constants hi r s)
bits_words of_constants hi r s f top =
    let rest = cond (is_not_negative r && is_not_negative s) (zero_to hi) full in
    cond_both (is_constant r && is_constant s) (constant of_constants) rest AreWords
    (λ e. constant_words of_constants f)
    (λ e. cond_both (is_not_negative r && is_not_negative s) (zero_to hi) full AreWords
    (λ n. let both = and_parts (is_not_negative r) (is_not_negative s) n in
    zero_words hi (top (omega (arith, ints, both.0)) (omega (arith, ints, both.1))))
    (λ n. full_words))

-- ---- all operations

abbrev sums : Ends → Ends → Ends
sums r s = record { lo = r.lo +ℤ s.lo; hi = r.hi +ℤ s.hi }

abbrev differences : Ends → Ends → Ends
differences r s = record { lo = r.lo -ℤ s.hi; hi = r.hi -ℤ s.lo }

words : (op : Binary) (r s t : Ends) → IsRange r → IsRange s → result_range op r s ≡ Some t → AreWords t
unfolding result_range
words binary.Add r s t p q h = fitting_words (sums r s) t h
words binary.Subtract r s t p q h = fitting_words (differences r s) t h
words binary.Multiply r s t p q h = fitting_words (corners (λ x y. x *ℤ y) r s) t h
words binary.Divide r s t p q h =
    fitting_words (corners int_div r s) t (unless (in_range s (pos 0)) (fitting (corners int_div r s)) t h)
words binary.Remainder r s t p q h =
    some_words (remainder_ends r (greatest_size s)) t
    (unless (can_fail_to_divide r s) (Some (remainder_ends r (greatest_size s))) t h)
    (remainder_words r (greatest_size s) p)
words binary.Sum r s t p q h = some_words _ t h (or_full_words (sums r s))
words binary.Difference r s t p q h = some_words _ t h (or_full_words (differences r s))
words binary.Product r s t p q h = some_words _ t h (or_full_words (corners (λ x y. x *ℤ y) r s))
words binary.And r s t p q h =
    some_words _ t h (bits_words (word_and r.lo s.lo) (int_min r.hi s.hi) r s (and_fits r.lo s.lo p.lo_fits q.lo_fits)
    (λ a b. let f = p.hi_fits in let g = q.hi_fits in omega (arith, ints, clamps)))
words binary.Or r s t p q h =
    some_words _ t h (bits_words (word_or r.lo s.lo) (all_ones (int_max r.hi s.hi)) r s
    (or_fits r.lo s.lo p.lo_fits q.lo_fits) (top r s p q))
words binary.ExclusiveOr r s t p q h =
    some_words _ t h (bits_words (word_xor r.lo s.lo) (all_ones (int_max r.hi s.hi)) r s
    (xor_fits r.lo s.lo p.lo_fits q.lo_fits) (top r s p q))
words binary.Greater r s t p q h = some_words truths t h (zero_words (pos 1) (omega (arith, ints)))
words binary.Equal r s t p q h = some_words truths t h (zero_words (pos 1) (omega (arith, ints)))

pub binary_gives_ranges : BinaryGivesRanges
binary_gives_ranges op r s t p q h =
    let w = words op r s t p q h in record {
      lo_fits = w.lo;
      hi_fits = w.hi;
      ordered = in_order (computed op r.lo s.lo) t
          (binary_holds op r s t p q h r.lo s.lo (lo_in r p.ordered) (lo_in s q.ordered));
    }

unary_words : (op : Unary) (r t : Ends) → IsRange r → unary_result_range op r ≡ Some t → AreWords t
unfolding unary_result_range unary_computed
unary_words unary.Not r t p h =
    some_words (not_range r) t h
    (record { lo = unary_gives_words unary.Not r.hi p.hi_fits; hi = unary_gives_words unary.Not r.lo p.lo_fits })

pub unary_gives_ranges : UnaryGivesRanges
unary_gives_ranges op r t p h =
    let w = unary_words op r t p h in record {
      lo_fits = w.lo;
      hi_fits = w.hi;
      ordered = in_order (unary_computed op r.lo) t (unary_holds op r t p h r.lo (lo_in r p.ordered));
    }
