-- What to write in place of a line that breaks a usage rule.
use Rattle.std.specs.Prelude.{codes, Option, Some, None}
use Rattle.occam_parser.specs.declared.tree.ArithmeticChain.TheVariants as chain
use Rattle.occam_parser.specs.declared.tree.ArithmeticPair.TheVariants as pair
use Rattle.reason_texts.specs.Blocks.{Text}
use Rattle.scalar_ranges.specs.declared.types.ExprType.{ExprType}
use Rattle.scalar_ranges.specs.declared.types.ExprType.TheVariants as type
use Rattle.scalar_ranges.specs.declared.scope.ScalarKind.TheVariants as scalar
use Rattle.scalar_ranges.specs.declared.scope.ArrayKind.TheVariants as array
use Rattle.scalar_ranges.specs.declared.scope.Meaning.{Meaning}
use Rattle.scalar_ranges.specs.declared.scope.Meaning.TheVariants as meaning
use Rattle.usage_reasons.specs.declared.reason.Operator.{Operator}
use Rattle.usage_reasons.specs.declared.reason.Operator.TheVariants as operator
use Rattle.usage_reasons.specs.declared.reason.Sort.{Sort}
use Rattle.usage_reasons.specs.declared.reason.Sort.TheVariants as sort
use Rattle.usage_reasons.specs.declared.reason.Why.{Why}
use Rattle.usage_reasons.specs.declared.reason.Why.TheVariants as why

-- where one type was found and another one was wanted
abbrev pub type_hint : ExprType → ExprType → Option Text
type_hint type.Byte type.Int = Some (codes "INT before a BYTE makes it an INT, as INT b")
type_hint type.Int type.Byte =
    Some (codes "BYTE before an INT of 0..255 makes it a BYTE, as BYTE x; a character is written 'a'")
type_hint found type.Condition = Some (codes "a condition is a comparison, as x <> 0")
type_hint type.Condition wanted = Some (codes "a truth value is no number; assign 1 or 0 in the choices of an IF")
type_hint found wanted = None

-- where a value or a variable has another type than the place that it is assigned or sent to, or received from
abbrev pub place_hint : ExprType → ExprType → Option Text
place_hint type.Byte type.Int = Some (codes "a BYTE is assigned or sent as INT b; an INT is received into an INT")
place_hint type.Int type.Byte = Some (codes
    "an INT of 0..255 is assigned or sent as BYTE x, a character as 'a'; a BYTE is received into a BYTE")
place_hint found wanted = type_hint found wanted

-- where a name denotes something else
abbrev pub sort_hint : Sort → Option Text
sort_hint sort.Scalar = Some (codes "an array is used by its elements, as a[0], and a channel in inputs and outputs")
sort_hint sort.Variable =
    Some (codes "constants, VAL parameters and replicators keep their value; arrays change by elements")
sort_hint sort.VariableArray = Some (codes "only arrays have subscripts; tables and VAL parameters keep their values")
sort_hint sort.Channel = Some (codes "channels are declared, as CHAN OF INT c, and elements are c[0]")
sort_hint sort.Array = Some (codes "only arrays have subscripts")
sort_hint sort.ChannelArray = Some (codes "only arrays have subscripts")
sort_hint sort.Procedure = Some (codes "an instance begins with the name of a procedure")

-- what a parameter takes
abbrev pub parameter_hint : Meaning → Option Text
parameter_hint (meaning.Scalar scalar.Reference type range) =
    Some (codes "a parameter without VAL takes the name of a variable of its type; assign an element to one before")
parameter_hint (meaning.Scalar kind type range) = Some (codes "a VAL parameter takes an expression of its type")
parameter_hint (meaning.Array array.Value type size range) =
    Some (codes "it takes the name of an array or a table of this type and size")
parameter_hint (meaning.Array kind type size range) =
    Some (codes "it takes the name of an array of this type and size that is no table and no VAL parameter")
parameter_hint (meaning.Channel type) =
    Some (codes "it takes a channel of this type, or an element of an array of channels")
parameter_hint (meaning.Channels type size) = Some (codes "it takes an array of channels of this type and size")
parameter_hint m = None

-- which operator works modulo 2^32 in place of another one
abbrev pub wrap_hint : Operator → Option Text
wrap_hint operator.Negate = Some (codes "0 MINUS x wraps, and never fails")
wrap_hint (operator.Pair pair.Subtract) = Some (codes "MINUS wraps, and never fails")
wrap_hint (operator.Chain chain.Add) = Some (codes "PLUS wraps, and never fails")
wrap_hint (operator.Chain chain.Multiply) = Some (codes "TIMES wraps, and never fails")
wrap_hint o = None

-- where something is out of range or too large
abbrev pub range_hint : Why → Option Text
range_hint (why.Overflow o left right results) = wrap_hint o
range_hint (why.Division o dividend divisor) =
    Some (codes "of a local variable y a choice of an IF excludes other divisors, as y > 0")
range_hint (why.ShiftCount count) = Some (codes "n /\\ 31 is 0..31 where n is not negative")
range_hint (why.Conversion to operand) =
    Some (codes "of a local variable x the choices x < 0 and x < 256 of an IF leave 0..255")
range_hint (why.Outside size subscript) =
    Some (codes "choices of an IF, one for each end, leave a range of a local variable; AND and OR leave none")
range_hint why.TooLarge = Some (codes "under a replicated PAR, IF or ALT each index is gone over")
range_hint w = None

-- of a name that is not known, where no other one is nearly the same
abbrev pub unknown_hint : {X : Type 0} → Option X → Option Text
unknown_hint None = Some
    (codes "a name is known below its declaration, and a procedure below its end; the last choice of an IF is TRUE")
unknown_hint (Some nearest) = None

-- what to write in the place of a line whose names are known
abbrev pub known_hint : Why → Option Text
known_hint (why.OtherType found wanted) = type_hint found wanted
known_hint (why.OtherPlaceType found wanted place) = place_hint found wanted
known_hint (why.OtherTypes left right) = Some (codes "INT before a BYTE makes it an INT, as INT b")
known_hint (why.OtherSort wanted) = sort_hint wanted
known_hint why.TextOfInts = Some (codes "write the items, as [97, 98], or a table of BYTE")
known_hint why.NoConstant = Some (codes
    "what VAL names, sizes, counts and subscripts of channels are constants; a loop ends early by an IF in it")
known_hint (why.NotTaken place parameter found) = parameter_hint parameter
known_hint (why.SharedVariable variable first first_deed second second_deed) =
    Some (codes "what one component changes no other one uses, and an array is one variable; send it on a channel")
known_hint (why.SharedChannel channel element direction first second) =
    Some (codes "one component receives from a channel and one sends to it; declare one more channel")
known_hint why.OutsidePar = Some (codes "a channel is between components of a PAR below its declaration")
known_hint (why.OtherDirection direction) = Some (codes "main receives from in0 to in3 and sends to out0 to out3")
known_hint (why.PassedTwice first) = Some (codes "pass another one, or a copy of a variable")
known_hint (why.NoMain last) =
    Some (codes "the last procedure is main; its parameters are as CHAN OF BYTE in0, up to in3 and out3")
known_hint w = range_hint w

-- what to write in a line's place
abbrev pub hint : Why → Option Text
hint (why.UnknownName nearest) = unknown_hint nearest
hint w = known_hint w
