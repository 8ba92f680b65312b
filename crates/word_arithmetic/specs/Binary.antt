-- The operations of two operands: the result of each, and the range of all its results. The first operand is the one
-- that a process pushes first: a difference is the first less the second.
use Rattle.std.specs.Prelude.{◌≡◌, Option, Some, None, IfSome, ℤ, int_lt, FitsSigned}
use Rattle.std.specs.Int.{w32}
use Rattle.std.specs.Ordering.{int_eq}
use Rattle.word_arithmetic.specs.Word.{checked_sum, checked_difference, checked_product, checked_quotient}
use Rattle.word_arithmetic.specs.Word.{checked_remainder, word_sum, word_difference, word_product, word_and, word_or}
use Rattle.word_arithmetic.specs.Word.{word_xor, truth}
use Rattle.word_arithmetic.specs.Range.{Ends, IsRange, HoldsWords, HasResult, truths, sum_range, difference_range}
use Rattle.word_arithmetic.specs.Range.{product_range, quotient_range, remainder_range, word_sum_range}
use Rattle.word_arithmetic.specs.Range.{word_difference_range, word_product_range, and_range, or_range, xor_range}
use Rattle.word_arithmetic.specs.declared.binary.Binary.{Binary}
use Rattle.word_arithmetic.specs.declared.binary.Binary.TheVariants as binary

-- what an operation gives of two words, and of two ranges
pub record Operation : Type 0 where
  pub result : ℤ → ℤ → Option ℤ
  pub range : Ends → Ends → Option Ends

-- an operation that never sets the error flag
abbrev pub unfailing : (ℤ → ℤ → ℤ) → (Ends → Ends → Ends) → Operation
unfailing f range = record { result = λ x y. Some (f x y); range = λ r s. Some (range r s) }

abbrev pub operation : Binary → Operation
operation binary.Add = record { result = checked_sum; range = sum_range }
operation binary.Subtract = record { result = checked_difference; range = difference_range }
operation binary.Multiply = record { result = checked_product; range = product_range }
operation binary.Divide = record { result = checked_quotient; range = quotient_range }
operation binary.Remainder = record { result = checked_remainder; range = remainder_range }
operation binary.Sum = unfailing word_sum word_sum_range
operation binary.Difference = unfailing word_difference word_difference_range
operation binary.Product = unfailing word_product word_product_range
operation binary.And = unfailing word_and and_range
operation binary.Or = unfailing word_or or_range
operation binary.ExclusiveOr = unfailing word_xor xor_range
operation binary.Greater = unfailing (λ x y. truth (int_lt y x)) (λ r s. truths)
operation binary.Equal = unfailing (λ x y. truth (int_eq x y)) (λ r s. truths)

-- the result; None sets the error flag
unfoldable pub computed : Binary → ℤ → ℤ → Option ℤ
computed op x y = (operation op).result x y

-- the range of the results; None where some members set the error flag
unfoldable pub result_range : Binary → Ends → Ends → Option Ends
result_range op r s = (operation op).range r s

-- the result of two words is a word
abbrev pub BinaryGivesWords : Type 0
BinaryGivesWords = (op : Binary) (x y : ℤ) → FitsSigned w32 x → FitsSigned w32 y
    → IfSome (computed op x y) (FitsSigned w32)

-- the range that an operation has of two ranges holds the result of all their members, and none sets the error flag
abbrev pub BinaryHolds : Type 0
BinaryHolds = (op : Binary) (r s t : Ends) → IsRange r → IsRange s
    → result_range op r s ≡ Some t → HoldsWords (computed op) r s t

-- an operation has no range of two ranges only if some of their members set the error flag
abbrev pub BinaryFails : Type 0
BinaryFails = (op : Binary) (r s : Ends) → IsRange r → IsRange s
    → result_range op r s ≡ None → HasResult (computed op) r s None

-- the range that an operation has of two ranges is one: its ends are words, in order
abbrev pub BinaryGivesRanges : Type 0
BinaryGivesRanges = (op : Binary) (r s t : Ends) → IsRange r → IsRange s → result_range op r s ≡ Some t → IsRange t
