-- Types, ranges and what else a sentence names.
use Rattle.std.specs.Prelude.{ℕ, ℤ, ◌++◌, codes, Bool, ◌&&◌, int_le, ◌==◌, if◌then◌else◌, Option, Some, None}
use Rattle.std.specs.Fmt.{decimal, signed_decimal}
use Rattle.occam_parser.specs.declared.tree.ValueType.{ValueType}
use Rattle.occam_parser.specs.declared.tree.ValueType.TheVariants as types
use Rattle.scalar_ranges.specs.declared.types.ExprType.{ExprType}
use Rattle.scalar_ranges.specs.declared.types.ExprType.TheVariants as exprs
use Rattle.scalar_ranges.specs.declared.scope.ScalarKind.{ScalarKind}
use Rattle.scalar_ranges.specs.declared.scope.ScalarKind.TheVariants as kinds
use Rattle.scalar_ranges.specs.declared.scope.ArrayKind.{ArrayKind}
use Rattle.scalar_ranges.specs.declared.scope.ArrayKind.TheVariants as arrays
use Rattle.scalar_ranges.specs.declared.scope.Meaning.{Meaning}
use Rattle.scalar_ranges.specs.declared.scope.Meaning.TheVariants as meanings
use Rattle.usage_reasons.specs.declared.reason.Sort.{Sort}
use Rattle.usage_reasons.specs.declared.reason.Sort.TheVariants as sorts
use Rattle.usage_reasons.specs.declared.reason.Deed.{Deed}
use Rattle.usage_reasons.specs.declared.reason.Deed.TheVariants as deeds
use Rattle.program_uses.specs.declared.uses.Direction.{Direction}
use Rattle.program_uses.specs.declared.uses.Direction.TheVariants as ways
use Rattle.reason_texts.specs.Blocks.{Text}

abbrev pub is_one : ℤ → ℤ → Bool
is_one lo hi = int_le lo hi && int_le hi lo

-- numbers from the least to the greatest one
abbrev pub ends_text : ℤ → ℤ → Text
ends_text lo hi =
    if is_one lo hi then signed_decimal lo else signed_decimal lo ++ (codes ".." ++ signed_decimal hi)

abbrev pub type_text : ValueType → Text
type_text types.Int = codes "INT"
type_text types.Byte = codes "BYTE"

-- the numbers of a type
abbrev pub numbers_text : ValueType → Text
numbers_text types.Int = codes "INT is -2147483648..2147483647"
numbers_text types.Byte = codes "BYTE is 0..255"

-- what an expression of a type is
abbrev pub found_text : ExprType → Text
found_text exprs.Int = codes "of type INT"
found_text exprs.Byte = codes "of type BYTE"
found_text exprs.Condition = codes "a condition"

abbrev pub wanted_text : ExprType → Text
wanted_text exprs.Int = codes "type INT"
wanted_text exprs.Byte = codes "type BYTE"
wanted_text exprs.Condition = codes "a condition"

-- what a name has to be
abbrev pub sort_text : Sort → Text
sort_text sorts.Scalar = codes "scalar"
sort_text sorts.Array = codes "array"
sort_text sorts.Variable = codes "variable"
sort_text sorts.VariableArray = codes "array of variables"
sort_text sorts.Channel = codes "channel"
sort_text sorts.ChannelArray = codes "array of channels"
sort_text sorts.Procedure = codes "procedure"

-- what a line does to a variable
abbrev pub deed_text : Deed → Text
deed_text deeds.Reads = codes "reads"
deed_text deeds.Changes = codes "changes"

-- what a line does to a channel
abbrev pub way_text : Direction → Text
way_text ways.Input = codes "receives from"
way_text ways.Output = codes "sends to"

-- a number of such things
abbrev pub counted_text : ℕ → Text → Text
counted_text count name = if count == 1 then codes "1 " ++ name else decimal count ++ (codes " " ++ (name ++ codes "s"))

-- how many elements an array has, if that is known
abbrev pub size_text : Option ℕ → Text
size_text (Some size) = codes "[" ++ (decimal size ++ codes "]")
size_text None = codes "[?]"

abbrev pub scalar_text : ScalarKind → Text → Text
scalar_text kinds.Index type = codes "replicator"
scalar_text kinds.Value type = codes "VAL " ++ type
scalar_text kinds.Variable type = type
scalar_text kinds.Reference type = type

abbrev pub array_text : ArrayKind → Text → Text → Text
array_text arrays.Variable size type = size ++ type
array_text arrays.Value size type = codes "VAL " ++ (size ++ type)
array_text arrays.Table size type = codes "VAL " ++ (size ++ type)

-- what a name denotes, as it is declared
abbrev pub shape_text : Meaning → Text
shape_text (meanings.Constant type value) = codes "VAL " ++ type_text type
shape_text (meanings.Scalar kind type range) = scalar_text kind (type_text type)
shape_text (meanings.Array kind type size range) = array_text kind (size_text size) (type_text type)
shape_text (meanings.Channel type) = codes "CHAN OF " ++ type_text type
shape_text (meanings.Channels type size) = size_text size ++ (codes "CHAN OF " ++ type_text type)
shape_text (meanings.Proc number) = codes "PROC"
