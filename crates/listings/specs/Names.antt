-- The names of the instructions, as the T414 compiler writer's guide has them.
use Rattle.std.specs.Prelude.{codes}
use Rattle.fact_texts.specs.Texts.{Text}
use Rattle.prefix_decoder.specs.declared.function.Fun.{Fun}
use Rattle.prefix_decoder.specs.declared.function.Fun.TheVariants as fun
use Rattle.word_arithmetic.specs.declared.binary.Binary.{Binary}
use Rattle.word_arithmetic.specs.declared.binary.Binary.TheVariants as binary
use Rattle.word_arithmetic.specs.declared.unary.Unary.TheVariants as unary
use Rattle.machine_state.specs.declared.op.Op.{Op}
use Rattle.machine_state.specs.declared.op.Op.TheVariants as ops
use Rattle.machine_state.specs.declared.op.Shift.TheVariants as shifts
use Rattle.machine_state.specs.declared.op.LongOp.TheVariants as long

unfoldable pub function_name : Fun → Text
function_name fun.Jump = codes "j"
function_name fun.LoadLocalPointer = codes "ldlp"
function_name fun.LoadNonLocal = codes "ldnl"
function_name fun.LoadConstant = codes "ldc"
function_name fun.LoadNonLocalPointer = codes "ldnlp"
function_name fun.LoadLocal = codes "ldl"
function_name fun.AddConstant = codes "adc"
function_name fun.Call = codes "call"
function_name fun.ConditionalJump = codes "cj"
function_name fun.AdjustWorkspace = codes "ajw"
function_name fun.EqualsConstant = codes "eqc"
function_name fun.StoreLocal = codes "stl"
function_name fun.StoreNonLocal = codes "stnl"
function_name fun.Operate = codes "opr"

-- an operation of two operands; equality is one with the operand of the instruction alone
unfoldable pub binary_name : Binary → Text
binary_name binary.Add = codes "add"
binary_name binary.Subtract = codes "sub"
binary_name binary.Multiply = codes "mul"
binary_name binary.Divide = codes "div"
binary_name binary.Remainder = codes "rem"
binary_name binary.Sum = codes "sum"
binary_name binary.Difference = codes "diff"
binary_name binary.Product = codes "prod"
binary_name binary.And = codes "and"
binary_name binary.Or = codes "or"
binary_name binary.ExclusiveOr = codes "xor"
binary_name binary.Greater = codes "gt"
binary_name binary.Equal = codes "eqc"

unfoldable pub operation_name : Op → Text
operation_name ops.Reverse = codes "rev"
operation_name ops.MinimumInteger = codes "mint"
operation_name (ops.Binary op) = binary_name op
operation_name (ops.Unary unary.Not) = codes "not"
operation_name (ops.Shift shifts.Left) = codes "shl"
operation_name (ops.Shift shifts.Right) = codes "shr"
operation_name (ops.Long long.Sum) = codes "lsum"
operation_name (ops.Long long.Difference) = codes "ldiff"
operation_name (ops.Long long.Product) = codes "lmul"
operation_name ops.LoadByte = codes "lb"
operation_name ops.StoreByte = codes "sb"
operation_name ops.ByteSubscript = codes "bsub"
operation_name ops.WordSubscript = codes "wsub"
operation_name ops.CheckSubscript = codes "csub0"
operation_name ops.CheckCount = codes "ccnt1"
operation_name ops.LoadPointerToInstruction = codes "ldpi"
operation_name ops.Move = codes "move"
operation_name ops.Input = codes "in"
operation_name ops.Output = codes "out"
operation_name ops.StartProcess = codes "startp"
operation_name ops.EndProcess = codes "endp"
operation_name ops.StopProcess = codes "stopp"
operation_name ops.Return = codes "ret"
operation_name ops.LoopEnd = codes "lend"
operation_name ops.Alternate = codes "alt"
operation_name ops.EnableChannel = codes "enbc"
operation_name ops.EnableSkip = codes "enbs"
operation_name ops.AlternationWait = codes "altwt"
operation_name ops.DisableChannel = codes "disc"
operation_name ops.DisableSkip = codes "diss"
operation_name ops.AlternationEnd = codes "altend"
