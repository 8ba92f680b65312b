-- Where names hold numbers of their types, so does each expression have one of its type, if it has one.
use Rattle.std.specs.Prelude.{◌≡◌, ℕ, ℤ, FitsSigned, true, List, [], ◌∷◌, Some, Ok, IfSome}
use Rattle.std.specs.Int.{w32}
use Rattle.std.specs.List.{AllByRecursion}
use Rattle.word_arithmetic.specs.Range.{InRange, bytes}
use Rattle.occam_parser.specs.declared.tree.ValueType.{ValueType}
use Rattle.occam_parser.specs.declared.tree.ValueType.TheVariants as value_type
use Rattle.occam_parser.specs.Expressions.{Expression}
use Rattle.occam_parser.specs.Words.{has_words}
use Rattle.scalar_ranges.specs.declared.types.ExprType.{ExprType}
use Rattle.scalar_ranges.specs.declared.types.ExprType.TheVariants as types
use Rattle.scalar_ranges.specs.Entries.{Meaning, Constant, Scalar, Array, Entry, meaning_in}
use Rattle.scalar_ranges.specs.Environments.{Held, Nothing, One, Many, Environment, held_in}
use Rattle.scalar_ranges.specs.Types.{type_of}
use Rattle.scalar_ranges.specs.Values.{number_of}

-- a number of the type of an expression
abbrev pub IsNumberOf : ExprType → ℤ → Type 0
IsNumberOf types.Int v = FitsSigned w32 v
IsNumberOf types.Byte v = InRange bytes v
IsNumberOf types.Condition v = Unit {0}

-- a number of the type of a variable
abbrev pub IsOfType : ValueType → ℤ → Type 0
IsOfType value_type.Int v = FitsSigned w32 v
IsOfType value_type.Byte v = InRange bytes v

-- all numbers that a name holds are of a type
abbrev pub HoldsOf : ValueType → Held → Type 0
HoldsOf type Nothing = Unit {0}
HoldsOf type (One v) = IsOfType type v
HoldsOf type (Many vs) = AllByRecursion (IsOfType type) vs

-- what a name holds is of its type
abbrev pub HasType : Meaning → Held → Type 0
HasType (Constant type value) h = HoldsOf type h
HasType (Scalar kind type range) h = HoldsOf type h
HasType (Array kind type size range) h = HoldsOf type h
HasType m h = Unit {0}

-- Where all names hold what is of their types, the number of an expression is of its type, if it has one.
abbrev pub ValuesAreTyped : Type 0
ValuesAreTyped = (es : List Entry) (env : Environment) (e : Expression) (t : ExprType)
    → ((name : List ℕ) (m : Meaning) → meaning_in name es ≡ Some m → HasType m (held_in name env))
    → has_words e ≡ true → type_of es e ≡ Ok t → IfSome (number_of env e) (IsNumberOf t)

-- the same of an environment, entry by entry
abbrev pub AreTyped : Environment → List Entry → Type 0
AreTyped [] [] = Unit {0}
AreTyped (b ∷ bs) (e ∷ es) = HasType e.meaning b.held × AreTyped bs es
AreTyped bs es = ⊥
