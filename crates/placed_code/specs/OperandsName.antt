-- Which operation the operand of `opr` names.
use Rattle.std.specs.Prelude.{◌≡◌, ℤ, Some}
use Rattle.word_arithmetic.specs.declared.binary.Binary.{Binary}
use Rattle.word_arithmetic.specs.declared.binary.Binary.TheVariants as binary
use Rattle.machine_state.specs.declared.op.Op.TheVariants as ops
use Rattle.machine_state.specs.declared.op.Shift.{Shift}
use Rattle.machine_state.specs.declared.op.Shift.TheVariants as shifts
use Rattle.machine_state.specs.Instructions.{op_of}
use Rattle.code_pieces.specs.declared.operations.TheConstants.{DIFFERENCE, ADD, PRODUCT, GREATER, SUBTRACT, REMAINDER}
use Rattle.code_pieces.specs.declared.operations.TheConstants.{DIVIDE, EXCLUSIVE_OR, SHIFT_RIGHT, SHIFT_LEFT, AND, OR}
use Rattle.code_pieces.specs.declared.operations.TheConstants.{SUM, MULTIPLY}

abbrev pub IsBinary : ℤ → Binary → Type 0
IsBinary operation op = op_of operation ≡ Some (ops.Binary op)

abbrev pub IsShift : ℤ → Shift → Type 0
IsShift operation op = op_of operation ≡ Some (ops.Shift op)

pub record OperandsName : Type 0 where
  pub add : IsBinary ADD binary.Add
  pub subtract : IsBinary SUBTRACT binary.Subtract
  pub multiply : IsBinary MULTIPLY binary.Multiply
  pub divide : IsBinary DIVIDE binary.Divide
  pub remainder : IsBinary REMAINDER binary.Remainder
  pub sum : IsBinary SUM binary.Sum
  pub difference : IsBinary DIFFERENCE binary.Difference
  pub product : IsBinary PRODUCT binary.Product
  pub and : IsBinary AND binary.And
  pub or : IsBinary OR binary.Or
  pub exclusive_or : IsBinary EXCLUSIVE_OR binary.ExclusiveOr
  pub greater : IsBinary GREATER binary.Greater
  pub left : IsShift SHIFT_LEFT shifts.Left
  pub right : IsShift SHIFT_RIGHT shifts.Right
