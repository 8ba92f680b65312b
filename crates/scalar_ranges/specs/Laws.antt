-- What the bounds of expressions promise.
use Rattle.std.specs.Prelude.{◌≡◌, ℤ, Bool, List, [], ◌∷◌, Option, Some, IsSome, IsSomeAnd, Ok}
use Rattle.word_arithmetic.specs.Range.{InRange}
use Rattle.occam_parser.specs.Expressions.{Expression}
use Rattle.scalar_ranges.specs.declared.types.ExprType.{ExprType}
use Rattle.scalar_ranges.specs.declared.types.ExprType.TheVariants as types
use Rattle.scalar_ranges.specs.Entries.{Meaning, Constant, Entry}
use Rattle.scalar_ranges.specs.Environments.{Held, Nothing, One, Environment, Meets}
use Rattle.scalar_ranges.specs.Types.{type_of}
use Rattle.scalar_ranges.specs.Values.{number_of, truth_of}
use Rattle.scalar_ranges.specs.Narrowing.{narrow}
use Rattle.scalar_ranges.specs.Bounds.{Bound, Exactly, Within, bound_of}

-- a number is as a bound says
abbrev pub IsBound : Bound → ℤ → Type 0
IsBound (Exactly value) v = v ≡ value
IsBound (Within range) v = InRange range v

-- an expression of a type has a number as its bound says, or a truth
abbrev pub HasValue : ExprType → Bound → Option ℤ → Option Bool → Type 0
HasValue types.Int bound number truth = IsSomeAnd number (IsBound bound)
HasValue types.Byte bound number truth = IsSomeAnd number (IsBound bound)
HasValue types.Condition bound number truth = IsSome truth

-- Where a well typed expression has a bound, it has a value as the bound says in every environment that meets the
-- scope.
abbrev pub BoundsHold : Type 0
BoundsHold = (es : List Entry) (env : Environment) (e : Expression) (t : ExprType) (bound : Bound) → Meets env es
    → type_of es e ≡ Ok t → bound_of es e ≡ Ok bound → HasValue t bound (number_of env e) (truth_of env e)

-- what the names of constants hold, and no others
abbrev pub constant_of : Meaning → Held
constant_of (Constant type (Some value)) = One value
constant_of m = Nothing

abbrev pub constants_of : List Entry → Environment
constants_of [] = []
constants_of (e ∷ es) = record { name = e.name; held = constant_of e.meaning } ∷ constants_of es

-- The value of a constant expression is its number in the environment that has the constants alone.
abbrev pub ConstantsHold : Type 0
ConstantsHold = (es : List Entry) (e : Expression) (value : ℤ) → bound_of es e ≡ Ok (Exactly value)
    → number_of (constants_of es) e ≡ Some value

-- Where a well typed condition has a truth, the environments that meet the scope meet it narrowed by that truth.
abbrev pub NarrowingHolds : Type 0
NarrowingHolds = (es : List Entry) (env : Environment) (e : Expression) (t : ExprType) (holds : Bool) → Meets env es
    → type_of es e ≡ Ok t → truth_of env e ≡ Some holds → Meets env (narrow es e holds)
