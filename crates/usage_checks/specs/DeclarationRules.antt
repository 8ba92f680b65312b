-- The rules of declarations and formals, but for their names: sizes and values of constants.
use Rattle.std.specs.Prelude.{◌≡◌, ℕ, ℤ, pos, nat_eq, int_le, false, List, length, ◌⊎◌, Option, Some, None}
use Rattle.occam_parser.specs.declared.tree.ValueType.{ValueType}
use Rattle.occam_parser.specs.declared.tree.ValueType.TheVariants as value_type
use Rattle.occam_parser.specs.Expressions.{Expression}
use Rattle.occam_parser.specs.OneOrMore.{as_list}
use Rattle.occam_parser.specs.Lines.{Value, Scalar, Table, Bytes, Declaration, Constants, Variables, Channels}
use Rattle.scalar_ranges.specs.declared.types.ExprType.TheVariants as types
use Rattle.scalar_ranges.specs.declared.types.TheConstants.{WRONG_TYPE}
use Rattle.scalar_ranges.specs.declared.bounds.TheConstants.{OUT_OF_RANGE}
use Rattle.scalar_ranges.specs.Entries.{Entry}
use Rattle.scalar_ranges.specs.Types.{type_of_values}
use Rattle.program_uses.specs.Constants.{value_as, size_in}
use Rattle.usage_checks.specs.declared.wanting.Wanted.TheVariants as wanted
use Rattle.usage_checks.specs.Wanting.{BreaksWanted}
use Rattle.usage_checks.specs.EachBroken.{BreaksEach}

-- O16: a size that is known is below 1
abbrev pub IsNoSize : Option ℤ → ℕ → Type 0
IsNoSize None n = ⊥
IsNoSize (Some size) n = (int_le (pos 1) size ≡ false) × (n ≡ OUT_OF_RANGE)

abbrev pub BreaksSize : List Entry → Expression → ℕ → Type 0
BreaksSize es e n = BreaksWanted (wanted.Constant types.Int) es e n ⊎ IsNoSize (value_as es types.Int e) n

abbrev pub BreaksSizeIfAny : List Entry → Option Expression → ℕ → Type 0
BreaksSizeIfAny es None n = ⊥
BreaksSizeIfAny es (Some e) n = BreaksSize es e n

-- O11: a table has another number of items than its size says
abbrev pub HasOtherSize : Option ℕ → ℕ → ℕ → Type 0
HasOtherSize None count n = ⊥
HasOtherSize (Some size) count n = (nat_eq size count ≡ false) × (n ≡ WRONG_TYPE)

-- O11: a text is a table of bytes
abbrev pub IsNoText : ValueType → ℕ → Type 0
IsNoText value_type.Int n = n ≡ WRONG_TYPE
IsNoText value_type.Byte n = ⊥

abbrev pub BreaksItem : List Entry → ValueType → Expression → ℕ → Type 0
BreaksItem es type e n = BreaksWanted (wanted.Constant (type_of_values type)) es e n

abbrev pub BreaksValue : List Entry → ValueType → Value → ℕ → Type 0
BreaksValue es type (Scalar e) n = BreaksItem es type e n
BreaksValue es type (Table size items) n =
    BreaksSize es size n
    ⊎ (BreaksEach (λ i. BreaksItem es type) 0 (as_list items) n
    ⊎ HasOtherSize (size_in es size) (length (as_list items)) n)
BreaksValue es type (Bytes size bytes) n =
    BreaksSize es size n ⊎ (IsNoText type n ⊎ HasOtherSize (size_in es size) (length bytes) n)

abbrev pub BreaksDeclaration : List Entry → Declaration → ℕ → Type 0
BreaksDeclaration es (Constants c) n = BreaksValue es c.value_type c.value n
BreaksDeclaration es (Variables names) n = BreaksSizeIfAny es names.size n
BreaksDeclaration es (Channels names) n = BreaksSizeIfAny es names.size n
