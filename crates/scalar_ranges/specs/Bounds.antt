-- The ranges of expressions in a scope, flow by flow the rules by which the compiler bounds numbers.
use Rattle.std.specs.Prelude.{ℕ, ℤ, pos, Bool, ◌&&◌, List, if◌then◌else◌, Option, Some, None, option_map}
use Rattle.std.specs.Prelude.{int_lt, int_le, Result, Ok, Err}
use Rattle.word_arithmetic.specs.Word.{word_not, shifted_left, shifted_right}
use Rattle.word_arithmetic.specs.Range.{Ends, is_within, range_between, constant, full, truths, not_range}
use Rattle.word_arithmetic.specs.Range.{shift_left_range}
use Rattle.word_arithmetic.specs.Range.{shift_right_range}
use Rattle.word_arithmetic.specs.Binary.{computed, result_range}
use Rattle.word_arithmetic.specs.declared.binary.Binary.{Binary}
use Rattle.word_arithmetic.specs.declared.binary.Binary.TheVariants as binary
use Rattle.occam_parser.specs.declared.tree.ValueType.{ValueType}
use Rattle.occam_parser.specs.declared.tree.PrefixOperator.{PrefixOperator}
use Rattle.occam_parser.specs.declared.tree.PrefixOperator.TheVariants as prefix
use Rattle.occam_parser.specs.declared.tree.PairOperator.{PairOperator}
use Rattle.occam_parser.specs.declared.tree.PairOperator.TheVariants as pair
use Rattle.occam_parser.specs.declared.tree.ArithmeticPair.{ArithmeticPair}
use Rattle.occam_parser.specs.declared.tree.ArithmeticPair.TheVariants as arithmetic
use Rattle.occam_parser.specs.declared.tree.ChainOperator.{ChainOperator}
use Rattle.occam_parser.specs.declared.tree.ChainOperator.TheVariants as chain
use Rattle.occam_parser.specs.Expressions.{Expression, Terms, Term}
use Rattle.scalar_ranges.specs.Entries.{Meaning, Constant, Scalar, Array, Entry, meaning_in}
use Rattle.scalar_ranges.specs.Entries.{type_range}
use Rattle.scalar_ranges.specs.Values.{operation_of, counts, shifted}
use Rattle.scalar_ranges.specs.declared.bounds.TheConstants.{OUT_OF_RANGE, OUTSIDE}
use Rattle.scalar_ranges.specs.Steps.{both_some, and_then, ok_or}
use Rattle.scalar_ranges.specs.Reading.{Reader, of_expression, of_terms, of_term}

-- the value of a constant expression, or the range of another
pub data Bound : Type 0 where
  Exactly : (value : ℤ) → Bound
  Within : (range : Ends) → Bound

abbrev pub ends : Bound → Ends
ends (Exactly value) = constant value
ends (Within range) = range

-- the range of a bound, whose ends have to be words in order
abbrev pub range_of_bound : Bound → Option Ends
range_of_bound b = range_between (ends b).lo (ends b).hi

-- the range of the results of two ranges
abbrev pub ranges_give : (Ends → Ends → Option Ends) → Bound → Bound → Result Bound ℕ
ranges_give range b c = ok_or OUT_OF_RANGE (option_map Within (both_some (range_of_bound b) (range_of_bound c) range))

-- two constants give a constant, and others a range
abbrev pub gives : (ℤ → ℤ → Option ℤ) → (Ends → Ends → Option Ends) → Bound → Bound → Result Bound ℕ
gives value range (Exactly x) (Exactly y) = ok_or OUT_OF_RANGE (option_map Exactly (value x y))
gives value range (Exactly x) (Within s) = ranges_give range (Exactly x) (Within s)
gives value range (Within r) c = ranges_give range (Within r) c

abbrev pub binary_bound : Binary → Bound → Bound → Result Bound ℕ
binary_bound op = gives (computed op) (result_range op)

abbrev pub by_counts : (Ends → Ends → Ends) → Ends → Ends → Option Ends
by_counts range r s = if is_within s counts then Some (range r s) else None

-- the count does not change the range of a shift to the right
abbrev pub right_range : Ends → Ends → Ends
right_range r s = shift_right_range r

abbrev pub arithmetic_bound : ArithmeticPair → Bound → Bound → Result Bound ℕ
arithmetic_bound arithmetic.Subtract = binary_bound binary.Subtract
arithmetic_bound arithmetic.Divide = binary_bound binary.Divide
arithmetic_bound arithmetic.Remainder = binary_bound binary.Remainder
arithmetic_bound arithmetic.Minus = binary_bound binary.Difference
arithmetic_bound arithmetic.ShiftLeft = gives (shifted shifted_left) (by_counts shift_left_range)
arithmetic_bound arithmetic.ShiftRight = gives (shifted shifted_right) (by_counts right_range)

-- the range of a condition is that of the truth values
abbrev pub pair_bound : PairOperator → Bound → Bound → Result Bound ℕ
pair_bound (pair.Arithmetic op) b c = arithmetic_bound op b c
pair_bound (pair.Comparison op) b c = Ok (Within truths)

abbrev pub chain_bound : ChainOperator → Bound → Bound → Result Bound ℕ
chain_bound (chain.Arithmetic op) b c = binary_bound (operation_of op) b c
chain_bound (chain.Logic op) b c = Ok (Within truths)

abbrev pub not_bound : Bound → Result Bound ℕ
not_bound (Exactly x) = Ok (Exactly (word_not x))
not_bound (Within r) = ok_or OUT_OF_RANGE (option_map (λ s. Within (not_range s)) (range_of_bound (Within r)))

abbrev pub prefix_bound : PrefixOperator → Bound → Result Bound ℕ
prefix_bound prefix.Negate b = binary_bound binary.Subtract (Exactly (pos 0)) b
prefix_bound prefix.BitNot b = not_bound b
prefix_bound prefix.Not b = Ok (Within truths)

-- A constant whose declaration breaks a rule has no value, and what has no value breaks no further rule.
abbrev pub named_bound : Option Meaning → Result Bound ℕ
named_bound (Some (Constant type (Some value))) = Ok (Exactly value)
named_bound (Some (Constant type None)) = Ok (Within (type_range type))
named_bound (Some (Scalar kind type range)) = Ok (Within range)
named_bound m = Ok (Within full)

abbrev pub is_subscript : ℕ → Ends → Bool
is_subscript size r = int_le (pos 0) r.lo && int_lt r.hi (pos size)

-- an element is no constant, and its range is that of all elements, whatever the subscript is
abbrev pub element_bound : Option Meaning → Bound → Result Bound ℕ
element_bound (Some (Array kind type (Some size) range)) b =
    if is_subscript size (ends b) then Ok (Within range) else Err OUTSIDE
element_bound (Some (Array kind type None range)) b = Ok (Within range)
element_bound m b = Ok (Within full)

abbrev pub converted_bound : ValueType → Bound → Result Bound ℕ
converted_bound to b = if is_within (ends b) (type_range to) then Ok b else Err OUT_OF_RANGE

-- the bounds of the parts of an expression
abbrev pub bounds_in : List Entry → Reader Bound
bounds_in es = record {
  number = λ value. Exactly value;
  byte = λ byte. Exactly (pos byte);
  truth = λ holds. Within truths;
  named = λ name. named_bound (meaning_in name es);
  element = λ name subscript. and_then subscript (element_bound (meaning_in name es));
  converted = converted_bound;
  prefixed = prefix_bound;
  paired = pair_bound;
  chained = chain_bound;
}

abbrev pub bound_of : List Entry → Expression → Result Bound ℕ
bound_of es e = of_expression (bounds_in es) e

abbrev pub bound_of_terms : List Entry → ChainOperator → Terms → Result Bound ℕ
bound_of_terms es op ts = of_terms (bounds_in es) op ts

abbrev pub bound_of_term : List Entry → Term → Result Bound ℕ
bound_of_term es t = of_term (bounds_in es) t

-- the value of a constant expression
abbrev pub exact_value : Result Bound ℕ → Option ℤ
exact_value (Ok (Exactly value)) = Some value
exact_value (Ok (Within range)) = None
exact_value (Err e) = None

-- the range of an expression
abbrev pub range_found : Result Bound ℕ → Result Ends ℕ
range_found (Ok b) = Ok (ends b)
range_found (Err e) = Err e
