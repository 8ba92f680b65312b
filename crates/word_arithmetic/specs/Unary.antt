-- The operations of one operand: the result of each, and the range of all its results.
use Rattle.std.specs.Prelude.{◌≡◌, Option, Some, IfSome, IsSomeAnd, ℤ, FitsSigned}
use Rattle.std.specs.Int.{w32}
use Rattle.word_arithmetic.specs.Word.{word_not}
use Rattle.word_arithmetic.specs.Range.{Ends, InRange, IsRange, IsWordIn, not_range}
use Rattle.word_arithmetic.specs.declared.unary.Unary.{Unary}
use Rattle.word_arithmetic.specs.declared.unary.Unary.TheVariants as unary

-- the result; None sets the error flag
unfoldable pub unary_computed : Unary → ℤ → Option ℤ
unary_computed unary.Not x = Some (word_not x)

-- the range of the results; None where some members set the error flag
unfoldable pub unary_result_range : Unary → Ends → Option Ends
unary_result_range unary.Not r = Some (not_range r)

-- the result of a word is a word
abbrev pub UnaryGivesWords : Type 0
UnaryGivesWords = (op : Unary) (x : ℤ) → FitsSigned w32 x → IfSome (unary_computed op x) (FitsSigned w32)

-- the range that an operation has of a range holds the result of each member, and none sets the error flag
abbrev pub UnaryHolds : Type 0
UnaryHolds = (op : Unary) (r t : Ends) → IsRange r → unary_result_range op r ≡ Some t
    → (x : ℤ) → InRange r x → IsSomeAnd (unary_computed op x) (IsWordIn t)

-- the range that an operation has of a range is one: its ends are words, in order
abbrev pub UnaryGivesRanges : Type 0
UnaryGivesRanges = (op : Unary) (r t : Ends) → IsRange r → unary_result_range op r ≡ Some t → IsRange t
