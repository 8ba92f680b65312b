-- What a scope knows of its names: a list of entries, the innermost one first.
use Rattle.std.specs.Prelude.{ℕ, ℤ, List, [], ◌∷◌, length, bytes_eq, nat_eq, if◌then◌else◌, Option, Some, None}
use Rattle.occam_parser.specs.declared.tree.ValueType.{ValueType}
use Rattle.occam_parser.specs.declared.tree.ValueType.TheVariants as value_type
use Rattle.word_arithmetic.specs.Range.{Ends, full, bytes}
use Rattle.scalar_ranges.specs.declared.scope.ScalarKind.{ScalarKind}
use Rattle.scalar_ranges.specs.declared.scope.ArrayKind.{ArrayKind}

-- What a name denotes. A constant has no value, and an array no size, where its declaration breaks a rule. The
-- elements of a table have the hull of all its items as their range, those of another array the range of their type.
pub data Meaning : Type 0 where
  Constant : (type : ValueType) → (value : Option ℤ) → Meaning
  Scalar : (kind : ScalarKind) → (type : ValueType) → (range : Ends) → Meaning
  Array : (kind : ArrayKind) → (type : ValueType) → (size : Option ℕ) → (range : Ends) → Meaning
  Channel : (type : ValueType) → Meaning
  Channels : (type : ValueType) → (size : Option ℕ) → Meaning
  Procedure : (number : ℕ) → Meaning

pub record Entry : Type 0 where
  pub name : List ℕ
  pub meaning : Meaning

-- what the innermost declaration of a name says of it
abbrev pub meaning_in : List ℕ → List Entry → Option Meaning
meaning_in name [] = None
meaning_in name (e ∷ es) = if bytes_eq e.name name then Some e.meaning else meaning_in name es

-- the number of that declaration, counted from the outermost one
abbrev pub number_in : List ℕ → List Entry → Option ℕ
number_in name [] = None
number_in name (e ∷ es) = if bytes_eq e.name name then Some (length es) else number_in name es

-- the entry with a number, counted from the outermost one, whether or not its name is hidden
abbrev pub entry_at : ℕ → List Entry → Option Entry
entry_at n [] = None
entry_at n (e ∷ es) = if nat_eq (length es) n then Some e else entry_at n es

-- the numbers of a type
abbrev pub type_range : ValueType → Ends
type_range value_type.Int = full
type_range value_type.Byte = bytes
