-- What declarations, formals and replicators add to a scope.
use Rattle.std.specs.Prelude.{ℕ, ℤ, pos, nat_eq, List, ◌∷◌, fold, length, if◌then◌else◌, Option, Some, None}
use Rattle.std.specs.Prelude.{option_map}
use Rattle.word_arithmetic.specs.Range.{Ends, constant, hull}
use Rattle.occam_parser.specs.declared.tree.ValueType.{ValueType}
use Rattle.occam_parser.specs.declared.tree.ValueType.TheVariants as value_type
use Rattle.occam_parser.specs.declared.tree.FormalKind.TheVariants as formal_kind
use Rattle.occam_parser.specs.Expressions.{Expression}
use Rattle.occam_parser.specs.OneOrMore.{OneOrMore, as_list}
use Rattle.occam_parser.specs.Lines.{Value, Scalar, Table, Bytes, Declaration, Constants, Variables, Channels}
use Rattle.occam_parser.specs.Lines.{Formal}
use Rattle.scalar_ranges.specs.declared.scope.ScalarKind.{ScalarKind}
use Rattle.scalar_ranges.specs.declared.scope.ScalarKind.TheVariants as scalar
use Rattle.scalar_ranges.specs.declared.scope.ArrayKind.{ArrayKind}
use Rattle.scalar_ranges.specs.declared.scope.ArrayKind.TheVariants as array
use Rattle.scalar_ranges.specs.Entries as entries
use Rattle.scalar_ranges.specs.Entries.{Meaning, Entry, type_range}
use Rattle.scalar_ranges.specs.Types.{type_of_values}
use Rattle.scalar_ranges.specs.Steps.{both_some}
use Rattle.program_uses.specs.Constants.{value_as, size_in}
use Rattle.program_uses.specs.InTurn.{in_turn}

abbrev pub add : List ℕ → Meaning → List Entry → List Entry
add name m es = record { name = name; meaning = m } ∷ es

-- ---- constants

-- the least range with these values, if all of them are known
abbrev pub with_value : Option Ends → Option ℤ → Option Ends
with_value range value = both_some range value (λ r v. Some (hull r (constant v)))

abbrev pub range_of_items : List Entry → ValueType → OneOrMore Expression → Option Ends
range_of_items es type items =
    fold (λ range e. with_value range (value_as es (type_of_values type) e))
    (option_map constant (value_as es (type_of_values type) items.first)) items.others

abbrev pub range_of_bytes : ValueType → List ℕ → Option Ends
range_of_bytes value_type.Byte (b ∷ bytes) =
    Some (fold (λ range b. hull range (constant (pos b))) (constant (pos b)) bytes)
range_of_bytes type bytes = None

-- A table has the stated number of items, each of which has a value. If not, it has no size.
abbrev pub table_of : ValueType → Option ℕ → ℕ → Option Ends → Meaning
table_of type (Some size) count (Some range) =
    if nat_eq size count then entries.Array array.Table type (Some size) range
    else entries.Array array.Table type None (type_range type)
table_of type size count range = entries.Array array.Table type None (type_range type)

abbrev pub constant_meaning : List Entry → ValueType → Value → Meaning
constant_meaning es type (Scalar e) = entries.Constant type (value_as es (type_of_values type) e)
constant_meaning es type (Table size items) =
    table_of type (size_in es size) (length (as_list items)) (range_of_items es type items)
constant_meaning es type (Bytes size bytes) =
    table_of type (size_in es size) (length bytes) (range_of_bytes type bytes)

-- ---- variables and channels

-- a variable that a line declares is 0, and so are the elements of an array, of which no more is known than their type
abbrev pub variable_meaning : List Entry → ValueType → Option Expression → Meaning
variable_meaning es type None = entries.Scalar scalar.Variable type (constant (pos 0))
variable_meaning es type (Some size) = entries.Array array.Variable type (size_in es size) (type_range type)

abbrev pub channel_meaning : List Entry → ValueType → Option Expression → Meaning
channel_meaning es type None = entries.Channel type
channel_meaning es type (Some size) = entries.Channels type (size_in es size)

abbrev pub add_all : List (List ℕ) → Meaning → List Entry → List Entry
add_all names m es = in_turn (λ name. add name m) names es

abbrev pub add_declaration : Declaration → List Entry → List Entry
add_declaration (Constants c) es = add c.name (constant_meaning es c.value_type c.value) es
add_declaration (Variables n) es = add_all (as_list n.names) (variable_meaning es n.value_type n.size) es
add_declaration (Channels n) es = add_all (as_list n.names) (channel_meaning es n.value_type n.size) es

-- ---- outlines

-- A table is known as one of its type: neither how many items it has, nor where they lie.
abbrev pub constant_outline : List Entry → ValueType → Value → Meaning
constant_outline es type (Scalar e) = entries.Constant type (value_as es (type_of_values type) e)
constant_outline es type (Table size items) = entries.Array array.Table type None (type_range type)
constant_outline es type (Bytes size bytes) = entries.Array array.Table type None (type_range type)

abbrev pub add_outline : Declaration → List Entry → List Entry
add_outline (Constants c) es = add c.name (constant_outline es c.value_type c.value) es
add_outline (Variables n) es = add_declaration (Variables n) es
add_outline (Channels n) es = add_declaration (Channels n) es

-- ---- formals

-- one that is no channel, by what it is alone and as an array
abbrev pub passed_meaning : List Entry → ScalarKind → ArrayKind → ValueType → Option Expression → Meaning
passed_meaning es kind array_kind type None = entries.Scalar kind type (type_range type)
passed_meaning es kind array_kind type (Some size) = entries.Array array_kind type (size_in es size) (type_range type)

abbrev pub formal_meaning : List Entry → Formal → Meaning
formal_meaning es f = elim f.kind [
  | formal_kind.Value ↦ passed_meaning es scalar.Value array.Value f.value_type f.size
  | formal_kind.Variable ↦ passed_meaning es scalar.Reference array.Variable f.value_type f.size
  | formal_kind.Channel ↦ channel_meaning es f.value_type f.size
]

-- The size of a formal does not see the formals before it.
abbrev pub add_formals : List Entry → List Formal → List Entry → List Entry
add_formals outer fs es = in_turn (λ f. add f.name (formal_meaning outer f)) fs es
