-- The operand of `opr` names its operation.
use Rattle.machine_state.specs.Instructions.{op_of}
use Rattle.placed_code.specs.OperandsName.{OperandsName}

pub operands_name : OperandsName
unfolding op_of
operands_name = search
