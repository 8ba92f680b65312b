-- The result of an operation of two words is a word, and it lies in the range of the results.
use Rattle.std.proofs.Common.{zero, suc, ◌*◌, ◌+◌, ◌-◌, ◌^◌, Bool, true, false, subst, Option, Some, None, IfSome}
use Rattle.std.proofs.Common.{IsSomeAnd, ℤ, pos, negsuc, ◌+ℤ◌, ◌-ℤ◌, ◌*ℤ◌, int_div, int_rem, int_lt, is_some}
use Rattle.std.proofs.Common.{FitsSigned, arith}
use Rattle.std.specs.Int.{w32, cast_unsigned}
use Rattle.std.specs.Ordering.{int_eq}
use Rattle.std.proofs.lemmas.Int.{ints}
use Rattle.std.proofs.lemmas.Bool.{cond_both}
use Rattle.std.proofs.Math.Nat.{mod-le}
use Rattle.word_arithmetic.specs.Word.{is_word, checked, checked_quotient, checked_remainder, word_sum, word_difference}
use Rattle.word_arithmetic.specs.Word.{word_product, word_and, word_or, word_xor, truth}
use Rattle.word_arithmetic.specs.Range.{Ends, InRange, BoundsResults, IsRange, IsWordIn, ResultsStay, truths}
use Rattle.word_arithmetic.specs.Range.{word_sum_range}
use Rattle.word_arithmetic.specs.Range.{word_difference_range, word_product_range, and_range, or_range, xor_range}
use Rattle.word_arithmetic.specs.Binary.{computed, result_range, BinaryGivesWords, BinaryHolds, BinaryFails}
use Rattle.word_arithmetic.specs.declared.binary.Binary.{Binary}
use Rattle.word_arithmetic.specs.declared.binary.Binary.TheVariants as binary
use Rattle.word_arithmetic.proofs.WordLaws.{is_word_out}
use Rattle.word_arithmetic.proofs.EndsLaws.{member_fits}
use Rattle.word_arithmetic.proofs.SumLaws.{members_of, sum_exact, difference_exact}
use Rattle.word_arithmetic.proofs.CornerLaws.{product_exact}
use Rattle.word_arithmetic.proofs.QuotientLaws.{quotient_exact}
use Rattle.word_arithmetic.proofs.RemainderLaws.{remainder_bounds}
use Rattle.word_arithmetic.proofs.ModularLaws.{word_sum_holds, word_difference_holds, word_product_holds}
use Rattle.word_arithmetic.proofs.BitLaws.{wrapped_fits, and_fits, or_fits, xor_fits, and_holds, or_holds, xor_holds}

-- ---- the result is a word

checked_gives_word : (z : ℤ) → IfSome (checked z) (FitsSigned w32)
checked_gives_word z = cond_both (is_word z) (Some z) None (λ o. IfSome o (FitsSigned w32)) (is_word_out z) (λ h. tt)

-- a checked quotient is a word
quotient_gives_word : (x y : ℤ) → IfSome (checked_quotient x y) (FitsSigned w32)
quotient_gives_word x (pos zero) = tt
quotient_gives_word x (pos (suc n)) = checked_gives_word (int_div x (pos (suc n)))
quotient_gives_word x (negsuc n) = checked_gives_word (int_div x (negsuc n))

-- a remainder is no larger than the dividend
remainder_fits : (x y : ℤ) → FitsSigned w32 x → FitsSigned w32 (int_rem x y)
remainder_fits (pos a) y f = omega (arith, ints, mod-le)
remainder_fits (negsuc a) y f = omega (arith, ints, mod-le)

-- so a checked remainder is a word
remainder_gives_word : (x y : ℤ) → FitsSigned w32 x → IfSome (checked_remainder x y) (FitsSigned w32)
remainder_gives_word x y f =
    cond_both (is_some (checked_quotient x y)) (Some (int_rem x y)) None (λ o. IfSome o (FitsSigned w32))
    (λ h. remainder_fits x y f) (λ h. tt)

-- 0 and 1 are words
truth_fits : (b : Bool) → FitsSigned w32 (truth b)
truth_fits true = omega (arith, ints)
truth_fits false = omega (arith, ints)

-- the results of words are words
pub binary_gives_words : BinaryGivesWords
unfolding computed
binary_gives_words binary.Add x y f g = checked_gives_word (x +ℤ y)
binary_gives_words binary.Subtract x y f g = checked_gives_word (x -ℤ y)
binary_gives_words binary.Multiply x y f g = checked_gives_word (x *ℤ y)
binary_gives_words binary.Divide x y f g = quotient_gives_word x y
binary_gives_words binary.Remainder x y f g = remainder_gives_word x y f
binary_gives_words binary.Sum x y f g = wrapped_fits (cast_unsigned w32 x + cast_unsigned w32 y)
binary_gives_words binary.Difference x y f g = wrapped_fits (cast_unsigned w32 x + (2 ^ 32 - cast_unsigned w32 y))
binary_gives_words binary.Product x y f g = wrapped_fits (cast_unsigned w32 x * cast_unsigned w32 y)
binary_gives_words binary.And x y f g = and_fits x y f g
binary_gives_words binary.Or x y f g = or_fits x y f g
binary_gives_words binary.ExclusiveOr x y f g = xor_fits x y f g
binary_gives_words binary.Greater x y f g = truth_fits (int_lt y x)
binary_gives_words binary.Equal x y f g = truth_fits (int_eq x y)

-- ---- the result lies in the range

-- an operation that never sets the error flag
always : (f : ℤ → ℤ → ℤ) (r s e : Ends) → ResultsStay f r s e → BoundsResults (λ x y. Some (f x y)) r s (Some e)
always f r s e h = record { members = h; none = tt }

-- 0 and 1 are the truth values
truth_in : (b : Bool) → InRange truths (truth b)
truth_in true = record { from_lo = omega (arith, ints); to_hi = omega (arith, ints) }
truth_in false = record { from_lo = omega (arith, ints); to_hi = omega (arith, ints) }

-- the range of each operation holds its results
results_in : (op : Binary) (r s : Ends) → IsRange r → IsRange s → BoundsResults (computed op) r s (result_range op r s)
unfolding computed result_range
results_in binary.Add r s p q = (sum_exact r s p.ordered q.ordered).bounds
results_in binary.Subtract r s p q = (difference_exact r s p.ordered q.ordered).bounds
results_in binary.Multiply r s p q = (product_exact r s p.ordered q.ordered).bounds
results_in binary.Divide r s p q = (quotient_exact r s p.ordered q.ordered).bounds
results_in binary.Remainder r s p q = remainder_bounds r s p
results_in binary.Sum r s p q = always word_sum r s (word_sum_range r s) (word_sum_holds r s p q)
results_in binary.Difference r s p q =
    always word_difference r s (word_difference_range r s) (word_difference_holds r s p q)
results_in binary.Product r s p q = always word_product r s (word_product_range r s) (word_product_holds r s p q)
results_in binary.And r s p q = always word_and r s (and_range r s) (and_holds r s p q)
results_in binary.Or r s p q = always word_or r s (or_range r s) (or_holds r s p q)
results_in binary.ExclusiveOr r s p q = always word_xor r s (xor_range r s) (xor_holds r s p q)
results_in binary.Greater r s p q = always (λ x y. truth (int_lt y x)) r s truths (λ x y m n. truth_in (int_lt y x))
results_in binary.Equal r s p q = always (λ x y. truth (int_eq x y)) r s truths (λ x y m n. truth_in (int_eq x y))

-- ---- both

-- a result that is a word and lies in the range is both
pub words_in : (o : Option ℤ) (t : Ends) → IfSome o (FitsSigned w32) → IsSomeAnd o (InRange t)
    → IsSomeAnd o (IsWordIn t)
words_in None t f h = absurd h
words_in (Some v) t f h = record { member = h; word = f }

-- the results of members are words in the range
pub binary_holds : BinaryHolds
binary_holds op r s t p q h x y m n =
    words_in (computed op x y) t
    (binary_gives_words op x y (member_fits r x p m) (member_fits s y q n))
    (members_of (results_in op r s p q) h x y m n)

-- with no range, some members set the error flag
pub binary_fails : BinaryFails
binary_fails op r s p q h = (subst (BoundsResults (computed op) r s) h (results_in op r s p q)).none
