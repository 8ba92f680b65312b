-- What names have to be.
use Rattle.std.specs.Prelude.{ℕ, Bool, true, false, Option, Some, None}
use Rattle.scalar_ranges.specs.declared.scope.ScalarKind.TheVariants as scalar
use Rattle.scalar_ranges.specs.declared.scope.ArrayKind.TheVariants as array
use Rattle.scalar_ranges.specs.declared.types.ExprType.{ExprType}
use Rattle.scalar_ranges.specs.Types.{type_of_values}
use Rattle.scalar_ranges.specs.Entries.{Meaning, Constant, Scalar, Array, Channel, Channels, Procedure}
use Rattle.usage_reasons.specs.declared.reason.Sort.{Sort}
use Rattle.usage_reasons.specs.declared.reason.Sort.TheVariants as sort

abbrev pub is_of_sort : Sort → Meaning → Bool
is_of_sort sort.Scalar (Constant type value) = true
is_of_sort sort.Scalar (Scalar kind type range) = true
is_of_sort sort.Array (Array kind type size range) = true
is_of_sort sort.Variable (Scalar scalar.Variable type range) = true
is_of_sort sort.Variable (Scalar scalar.Reference type range) = true
is_of_sort sort.VariableArray (Array array.Variable type size range) = true
is_of_sort sort.Channel (Channel type) = true
is_of_sort sort.ChannelArray (Channels type size) = true
is_of_sort sort.Procedure (Procedure number) = true
is_of_sort s m = false

-- a name that is a constant operand
abbrev pub is_constant : Meaning → Bool
is_constant (Constant type value) = true
is_constant m = false

-- how many elements there are, where that is known
abbrev pub elements_in : Meaning → Option ℕ
elements_in (Array kind type size range) = size
elements_in (Channels type size) = size
elements_in m = None

-- the type of a variable, of the elements of an array, or of what a channel carries
abbrev pub carried : Option Meaning → Option ExprType
carried None = None
carried (Some (Constant type value)) = Some (type_of_values type)
carried (Some (Scalar kind type range)) = Some (type_of_values type)
carried (Some (Array kind type size range)) = Some (type_of_values type)
carried (Some (Channel type)) = Some (type_of_values type)
carried (Some (Channels type size)) = Some (type_of_values type)
carried (Some (Procedure number)) = None
