-- Why tokens break a rule, by what a scope knows.
use Rattle.std.specs.Prelude.{◌≡◌, ℕ, ℤ, pos, ◌+◌, ◌+ℤ◌, int_le, nat_eq, false, List, [], ◌∷◌, ◌++◌, length}
use Rattle.std.specs.Prelude.{Option, Some, None, Result, Ok, Err}
use Rattle.std.specs.Borrow.{Bor}
use Rattle.word_arithmetic.specs.Word.{greatest_word}
use Rattle.word_arithmetic.specs.Range.{ends_of, is_within}
use Rattle.word_arithmetic.specs.declared.ranges.Range.{Range}
use Rattle.occam_parser.specs.declared.tree.ValueType.{ValueType}
use Rattle.occam_parser.specs.declared.tree.PairOperator.{PairOperator}
use Rattle.occam_parser.specs.declared.tree.ArithmeticPair.{ArithmeticPair}
use Rattle.occam_layout.specs.declared.mark.Mark.TheVariants as mark
use Rattle.occam_parser.specs.Terminals.{Terminal, Name, Text, Mark}
use Rattle.occam_parser.specs.Expressions.{Expression, Alone, Prefixed, Paired, Chained, Terms, Two, Then, Term}
use Rattle.occam_parser.specs.Expressions.{Element, Converted, written, written_term}
use Rattle.occam_parser.specs.OneOrMore.{OneOrMore, as_list}
use Rattle.occam_parser.specs.Lines.{Place, Table, written_place, written_value}
use Rattle.scalar_ranges.specs.declared.types.ExprType.{ExprType}
use Rattle.scalar_ranges.specs.declared.types.ExprType.TheVariants as types
use Rattle.scalar_ranges.specs.declared.bounds.TheConstants.{OUT_OF_RANGE}
use Rattle.scalar_ranges.specs.Entries.{Meaning, Entry, meaning_in, number_in, type_range}
use Rattle.scalar_ranges.specs.Types.{type_of, type_of_term}
use Rattle.scalar_ranges.specs.Bounds.{bound_of, bound_of_term, range_found, is_subscript}
use Rattle.program_uses.specs.Constants.{is_same_type, value_as, size_in}
use Rattle.usage_reasons.specs.declared.reason.Why.{Why}
use Rattle.usage_reasons.specs.declared.reason.Why.TheVariants as why
use Rattle.usage_reasons.specs.declared.reason.Sort.{Sort}
use Rattle.usage_reasons.specs.declared.reason.Operator.{Operator}
use Rattle.usage_reasons.specs.declared.reason.Tokens.{Tokens}
use Rattle.usage_reasons.specs.declared.reason.Results.{Results}
use Rattle.usage_reasons.specs.declared.cause.Cause.{Cause}
use Rattle.usage_reasons.specs.Sorts.{is_of_sort, is_constant, elements_in, carried}
use Rattle.usage_reasons.specs.Tokens.{capped}

-- where the two operands of a chain lie; of a longer chain nothing is said here
abbrev pub AreJoined : List Entry → Terms → Range → Range → Type 0
AreJoined es (Two a b) left right =
    (range_found (bound_of_term es a) ≡ Ok (ends_of left)) × (range_found (bound_of_term es b) ≡ Ok (ends_of right))
AreJoined es (Then ts t) left right = Unit {0}

-- where the operands of an expression lie
abbrev pub AreOperands : List Entry → Expression → Range → Range → Type 0
AreOperands es (Alone t) left right = ⊥
AreOperands es (Prefixed op t) left right = range_found (bound_of_term es t) ≡ Ok (ends_of right)
AreOperands es (Paired op a b) left right =
    (range_found (bound_of_term es a) ≡ Ok (ends_of left)) × (range_found (bound_of_term es b) ≡ Ok (ends_of right))
AreOperands es (Chained op ts) left right = AreJoined es ts left right

-- an operator that may fail, by where its operands lie
pub record Fails (es : List Entry) (e : Expression) (left right : Range) : Type 0 where
  pub operands : AreOperands es e left right
  pub result : range_found (bound_of es e) ≡ Err OUT_OF_RANGE

-- an expression of this type has another one than is wanted, or is a condition where a number is wanted
pub data IsUnfit (type : Result ExprType ℕ) : Why → Type 0 where
  other_type : (found wanted : ExprType) → type ≡ Ok found → is_same_type found wanted ≡ false
      → IsUnfit type (why.OtherType found wanted)
  no_number : type ≡ Ok types.Condition → IsUnfit type why.NoNumber

-- These tokens break a rule for this reason.
pub data Breaks (es : List Entry) : List Terminal → Why → Type 0 where
  unknown : (name : List ℕ) (nearest : Option (Bor (List ℕ))) → meaning_in name es ≡ None
      → Breaks es (Name name ∷ []) (why.UnknownName nearest)
  other_sort : (name : List ℕ) (m : Meaning) (wanted : Sort) → meaning_in name es ≡ Some m
      → is_of_sort wanted m ≡ false → Breaks es (Name name ∷ []) (why.OtherSort wanted)
  unfit : (e : Expression) (w : Why) → IsUnfit (type_of es e) w → Breaks es (written e) w
  other_types : (op : PairOperator) (a b : Term) (left right : ExprType) → type_of_term es a ≡ Ok left
      → type_of_term es b ≡ Ok right → is_same_type left right ≡ false
      → Breaks es (written (Paired op a b)) (why.OtherTypes left right)
  no_constant : (name : List ℕ) (m : Meaning) → meaning_in name es ≡ Some m → is_constant m ≡ false
      → Breaks es (Name name ∷ []) why.NoConstant
  no_constant_element : (name : List ℕ) (e : Expression) → Breaks es (written_term (Element name e)) why.NoConstant
  overflow : (e : Expression) (op : Operator) (left right : Range) (results : Results) → Fails es e left right
      → Breaks es (written e) (why.Overflow op left right results)
  division : (e : Expression) (op : ArithmeticPair) (left right : Range) → Fails es e left right
      → Breaks es (written e) (why.Division op left right)
  shift : (e : Expression) (left right : Range) → Fails es e left right
      → Breaks es (written e) (why.ShiftCount right)
  conversion : (to : ValueType) (t : Term) (operand : Range) → range_found (bound_of_term es t) ≡ Ok (ends_of operand)
      → is_within (ends_of operand) (type_range to) ≡ false
      → Breaks es (written_term (Converted to t)) (why.Conversion to operand)
  outside : (name : List ℕ) (e : Expression) (m : Meaning) (size : ℕ) (subscript : Range)
      → meaning_in name es ≡ Some m → elements_in m ≡ Some size
      → range_found (bound_of es e) ≡ Ok (ends_of subscript) → is_subscript size (ends_of subscript) ≡ false
      → Breaks es (written e) (why.Outside size subscript)
  declared_twice : (name : List ℕ) (number first : ℕ) → number_in name es ≡ Some number
      → Breaks es (Name name ∷ []) (why.DeclaredTwice first)
  other_value : (name : List ℕ) (e : Expression) (found wanted : ExprType) (place : Tokens) → type_of es e ≡ Ok found
      → carried (meaning_in name es) ≡ Some wanted → is_same_type found wanted ≡ false
      → Breaks es (written e) (why.OtherPlaceType found wanted place)
  other_target : (channel : List ℕ) (target : Place) (found wanted : ExprType) (place : Tokens)
      → carried (meaning_in target.name es) ≡ Some found → carried (meaning_in channel es) ≡ Some wanted
      → is_same_type found wanted ≡ false
      → Breaks es (written_place target) (why.OtherPlaceType found wanted place)
  size_below_one : (e : Expression) (size : ℤ) → value_as es types.Int e ≡ Some size → int_le (pos 1) size ≡ false
      → Breaks es (written e) (why.SizeBelowOne size)
  count_below_zero : (e : Expression) (count : ℤ) → value_as es types.Int e ≡ Some count
      → int_le (pos 0) count ≡ false → Breaks es (written e) (why.CountBelowZero count)
  last_index : (b e : Expression) (base count : ℤ) → value_as es types.Int b ≡ Some base
      → value_as es types.Int e ≡ Some count → int_le (base +ℤ count) (greatest_word +ℤ pos 1) ≡ false
      → Breaks es (written b ++ Mark mark.For ∷ written e) (why.LastIndex base count)
  other_items : (size : Expression) (items : OneOrMore Expression) (stated : ℕ) → size_in es size ≡ Some stated
      → nat_eq stated (length (as_list items)) ≡ false
      → Breaks es (written_value (Table size items)) (why.OtherItems stated (length (as_list items)))
  other_text : (size : Expression) (text : List ℕ) (stated : ℕ) → size_in es size ≡ Some stated
      → nat_eq stated (length text) ≡ false
      → Breaks es (Text text ∷ []) (why.OtherItems stated (length text))
  text_of_ints : (text : List ℕ) → Breaks es (Text text ∷ []) why.TextOfInts

-- These are as many tokens as a part that breaks a rule for this reason.
pub record IsBroken (es : List Entry) (tokens : Tokens) (w : Why) : Type 0 where
  pub part : List Terminal
  pub count : tokens.len ≡ capped (length part)
  pub broken : Breaks es part w

-- the cause that so many tokens from this one on are, which break a rule for this reason
abbrev pub meant : ℕ → ℕ → Why → Cause
meant at len w = record { tokens = record { at = at; len = len }; why = w }

abbrev pub Explains : List Entry → Cause → Type 0
Explains es cause = IsBroken es cause.tokens cause.why

-- The tokens of a cause are some of a line's that begins at a place, and break a rule for its reason.
pub record IsCause (es : List Entry) (line : List Terminal) (at : ℕ) (cause : Cause) : Type 0 where
  pub before : List Terminal
  pub part : List Terminal
  pub after : List Terminal
  pub whole : line ≡ before ++ (part ++ after)
  pub place : cause.tokens.at ≡ capped (at + length before)
  pub count : cause.tokens.len ≡ capped (length part)
  pub broken : Breaks es part cause.why
