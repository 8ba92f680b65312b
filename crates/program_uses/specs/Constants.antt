-- The values of expressions where a constant of one type is wanted.
use Rattle.std.specs.Prelude.{ℕ, ℤ, pos, int_le, unsigned_abs, Bool, true, false, List, if◌then◌else◌, Option, Some}
use Rattle.std.specs.Prelude.{None, Result, Ok, Err, option_and_then}
use Rattle.occam_parser.specs.Expressions.{Expression}
use Rattle.scalar_ranges.specs.declared.types.ExprType.{ExprType}
use Rattle.scalar_ranges.specs.declared.types.ExprType.TheVariants as types
use Rattle.scalar_ranges.specs.Entries.{Entry}
use Rattle.scalar_ranges.specs.Types.{type_of}
use Rattle.scalar_ranges.specs.Bounds.{bound_of, exact_value}

abbrev pub is_same_type : ExprType → ExprType → Bool
is_same_type types.Int types.Int = true
is_same_type types.Byte types.Byte = true
is_same_type types.Condition types.Condition = true
is_same_type s t = false

abbrev pub has_type : ExprType → Result ExprType ℕ → Bool
has_type t (Ok s) = is_same_type s t
has_type t (Err e) = false

-- what is no constant, or has another type, or breaks a rule, has no value
abbrev pub value_as : List Entry → ExprType → Expression → Option ℤ
value_as es t e = if has_type t (type_of es e) then exact_value (bound_of es e) else None

abbrev pub from_one : ℤ → Option ℕ
from_one v = if int_le (pos 1) v then Some (unsigned_abs v) else None

-- how many elements an array has, if its size is a constant from 1 on
abbrev pub size_in : List Entry → Expression → Option ℕ
size_in es e = option_and_then from_one (value_as es types.Int e)
