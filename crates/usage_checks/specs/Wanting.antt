-- The rules of expressions: O9 and O11 by their types, O16 and O17 by their bounds, and what a place requires.
use Rattle.std.specs.Prelude.{◌≡◌, ℕ, Bool, true, false, ◌&&◌, List, ◌⊎◌, Option, Some, Result, Ok, Err, IsOk}
use Rattle.occam_parser.specs.Expressions.{Expression, Alone, Prefixed, Paired, Chained, Terms, Two, Then, Term}
use Rattle.occam_parser.specs.Expressions.{Named, Element, Bracketed, Converted}
use Rattle.scalar_ranges.specs.declared.types.ExprType.{ExprType}
use Rattle.scalar_ranges.specs.declared.types.TheConstants.{WRONG_TYPE}
use Rattle.scalar_ranges.specs.Entries.{Meaning, Constant, Entry, meaning_in}
use Rattle.scalar_ranges.specs.Types.{type_of}
use Rattle.scalar_ranges.specs.Bounds.{Bound, bound_of}
use Rattle.program_uses.specs.declared.faults.TheConstants.{CONSTANT_WANTED}
use Rattle.program_uses.specs.Constants.{is_same_type}
use Rattle.usage_checks.specs.declared.wanting.Wanted.{Wanted}
use Rattle.usage_checks.specs.declared.wanting.Wanted.TheVariants as wanted

-- ---- constant expressions

abbrev pub is_constant_meaning : Option Meaning → Bool
is_constant_meaning (Some (Constant type value)) = true
is_constant_meaning m = false

-- Its operands are literals and the names of constants. An element of a table is none.
abbrev mutual
  pub is_constant : List Entry → Expression → Bool
  is_constant es (Alone t) = is_constant_term es t
  is_constant es (Prefixed op t) = is_constant_term es t
  is_constant es (Paired op a b) = is_constant_term es a && is_constant_term es b
  is_constant es (Chained op ts) = are_constant es ts

  pub are_constant : List Entry → Terms → Bool
  are_constant es (Two a b) = is_constant_term es a && is_constant_term es b
  are_constant es (Then ts t) = are_constant es ts && is_constant_term es t

  pub is_constant_term : List Entry → Term → Bool
  is_constant_term es (Named name) = is_constant_meaning (meaning_in name es)
  is_constant_term es (Element name e) = false
  is_constant_term es (Bracketed e) = is_constant es e
  is_constant_term es (Converted to t) = is_constant_term es t
  is_constant_term es t = true

-- ---- rules

-- What has no type breaks the rule whose number its type gives; what has one, but no bound, that of its bound.
abbrev pub HasFault : Result ExprType ℕ → Result Bound ℕ → ℕ → Type 0
HasFault type bound n = (type ≡ Err n) ⊎ (IsOk type × (bound ≡ Err n))

-- O11: another type is wanted. O12: a constant is wanted. What has no type breaks neither.
abbrev pub IsUnfit : Wanted → Result ExprType ℕ → Bool → ℕ → Type 0
IsUnfit w (Err e) constant n = ⊥
IsUnfit wanted.Anything (Ok type) constant n = ⊥
IsUnfit (wanted.Value t) (Ok type) constant n = (is_same_type type t ≡ false) × (n ≡ WRONG_TYPE)
IsUnfit (wanted.Constant t) (Ok type) constant n =
    ((is_same_type type t ≡ false) × (n ≡ WRONG_TYPE)) ⊎ ((constant ≡ false) × (n ≡ CONSTANT_WANTED))

abbrev pub BreaksWanted : Wanted → List Entry → Expression → ℕ → Type 0
BreaksWanted w es e n =
    HasFault (type_of es e) (bound_of es e) n ⊎ IsUnfit w (type_of es e) (is_constant es e) n
