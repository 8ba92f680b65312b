-- What a condition says of a scalar that it compares with a constant.
use Rattle.std.specs.Prelude.{ℤ, Bool, true, false, List, [], ◌∷◌, bytes_eq, if◌then◌else◌, Option, Some, None}
use Rattle.std.specs.Prelude.{ℕ, option_map, unwrap_or, Result, Ok}
use Rattle.word_arithmetic.specs.declared.compare.Comparison.{Comparison}
use Rattle.word_arithmetic.specs.declared.compare.Comparison.TheVariants as comparison
use Rattle.word_arithmetic.specs.Range.{Ends, range_between, narrowed}
use Rattle.occam_parser.specs.declared.tree.PairOperator.TheVariants as pair
use Rattle.occam_parser.specs.Expressions.{Expression, Paired, Term, Named}
use Rattle.scalar_ranges.specs.declared.scope.ScalarKind.{ScalarKind}
use Rattle.scalar_ranges.specs.declared.scope.ScalarKind.TheVariants as kinds
use Rattle.scalar_ranges.specs.Entries.{Meaning, Scalar, Entry, meaning_in}
use Rattle.scalar_ranges.specs.declared.types.ExprType.{ExprType}
use Rattle.scalar_ranges.specs.declared.types.ExprType.TheVariants as types
use Rattle.scalar_ranges.specs.Types.{named_type, type_of_term}
use Rattle.scalar_ranges.specs.Bounds.{exact_value, bound_of_term}

-- scalars that a line declares, and VAL parameters
abbrev pub can_narrow : ScalarKind → Bool
can_narrow kinds.Variable = true
can_narrow kinds.Value = true
can_narrow kinds.Reference = false
can_narrow kinds.Index = false

abbrev pub is_narrowed : Option Meaning → Bool
is_narrowed (Some (Scalar kind type range)) = can_narrow kind
is_narrowed m = false

-- whether both are numbers of one type
abbrev pub are_alike : Result ExprType ℕ → Result ExprType ℕ → Bool
are_alike (Ok types.Int) (Ok types.Int) = true
are_alike (Ok types.Byte) (Ok types.Byte) = true
are_alike s t = false

-- the value of a constant operand of a type
abbrev pub constant_in : List Entry → Result ExprType ℕ → Term → Option ℤ
constant_in es wanted t =
    if are_alike wanted (type_of_term es t) then exact_value (bound_of_term es t) else None

-- what a condition says: the scalar of this name compares so with this constant
pub record Tested : Type 0 where
  pub name : List ℕ
  pub comparison : Comparison
  pub constant : ℤ

abbrev pub tested : List Entry → Comparison → Term → Term → Option Tested
tested es c (Named name) t =
    let m = meaning_in name es in
    if is_narrowed m
    then option_map (λ v. record { name = name; comparison = c; constant = v }) (constant_in es (named_type m) t)
    else None
tested es c other t = None

-- the comparison that holds with the operands exchanged, and the one that holds where this one doesn't
abbrev pub related : Comparison → Comparison × Comparison
related comparison.Equal = (comparison.Equal, comparison.NotEqual)
related comparison.NotEqual = (comparison.NotEqual, comparison.Equal)
related comparison.Less = (comparison.Greater, comparison.GreaterOrEqual)
related comparison.LessOrEqual = (comparison.GreaterOrEqual, comparison.Greater)
related comparison.Greater = (comparison.Less, comparison.LessOrEqual)
related comparison.GreaterOrEqual = (comparison.LessOrEqual, comparison.Less)

abbrev pub turned : Comparison → Comparison
turned c = (related c).0

abbrev pub opposite : Comparison → Comparison
opposite c = (related c).1

abbrev pub first_of : {A : Type 0} → Option A → Option A → Option A
first_of None second = second
first_of (Some x) second = Some x

-- A condition says so if it is exactly a scalar and a constant of its type with a comparison between them, in either
-- order.
abbrev pub test_of : List Entry → Expression → Option Tested
test_of es (Paired (pair.Comparison c) a b) = first_of (tested es c a b) (tested es (turned c) b a)
test_of es e = None

-- the range of a scalar by what is left of it, where its ends are words in order
abbrev pub left_of : Comparison → ℤ → Ends → Ends
left_of c value r = unwrap_or (option_map (narrowed c value) (range_between r.lo r.hi)) r

abbrev pub with_range : (Ends → Ends) → Meaning → Meaning
with_range f (Scalar kind type range) = Scalar kind type (f range)
with_range f m = m

-- the innermost entry of a name with its range changed
abbrev pub changed : (Ends → Ends) → List ℕ → List Entry → List Entry
changed f name [] = []
changed f name (e ∷ es) =
    if bytes_eq e.name name then record { name = e.name; meaning = with_range f e.meaning } ∷ es
    else e ∷ changed f name es

abbrev pub as_holds : Bool → Comparison → Comparison
as_holds true c = c
as_holds false c = opposite c

abbrev pub by_test : List Entry → Bool → Option Tested → List Entry
by_test es holds None = es
by_test es holds (Some t) = changed (left_of (as_holds holds t.comparison) t.constant) t.name es

-- a scope where a condition has this truth
abbrev pub narrow : List Entry → Expression → Bool → List Entry
narrow es e holds = by_test es holds (test_of es e)
