-- The registers that instructions use.
use Rattle.machine_state.specs.declared.op.Op.{Op}
use Rattle.machine_state.specs.declared.op.Op.TheVariants.{Binary, Unary, Shift, Long, CheckSubscript, CheckCount}
use Rattle.machine_state.specs.declared.op.Op.TheVariants.{ByteSubscript, WordSubscript, LoadPointerToInstruction}
use Rattle.machine_state.specs.declared.op.Op.TheVariants.{LoadByte, StoreByte, Move, Input, Output, EnableChannel}
use Rattle.machine_state.specs.declared.op.Op.TheVariants.{EnableSkip, DisableChannel, DisableSkip, LoopEnd}
use Rattle.machine_state.specs.declared.op.Op.TheVariants.{StartProcess, EndProcess}
use Rattle.machine_state.specs.declared.instruction.Instruction.{Instruction}
use Rattle.machine_state.specs.declared.instruction.Instruction.TheVariants.{WithConstant, LoadNonLocalPointer}
use Rattle.machine_state.specs.declared.instruction.Instruction.TheVariants.{Operate}
use Rattle.machine_state.specs.declared.instruction.Instruction.TheVariants.{StoreNonLocal, LoadNonLocal, Call}
use Rattle.machine_state.specs.declared.instruction.Instruction.TheVariants.{StoreLocal, ConditionalJump}
use Rattle.explanation_parts.specs.declared.uses.Uses.{Uses}
use Rattle.explanation_parts.specs.declared.uses.Uses.TheVariants.{Nothing, A, AAndB, All}

-- how many registers an operation uses, from A on
unfoldable pub used_by : Op → Uses
used_by (Unary op) = A
used_by LoadByte = A
used_by LoadPointerToInstruction = A
used_by EndProcess = A
used_by EnableSkip = A
used_by (Binary op) = AAndB
used_by (Shift op) = AAndB
used_by StoreByte = AAndB
used_by ByteSubscript = AAndB
used_by WordSubscript = AAndB
used_by CheckSubscript = AAndB
used_by CheckCount = AAndB
used_by StartProcess = AAndB
used_by LoopEnd = AAndB
used_by EnableChannel = AAndB
used_by DisableSkip = AAndB
used_by (Long op) = All
used_by Move = All
used_by Input = All
used_by Output = All
used_by DisableChannel = All
used_by op = Nothing

-- the same of an instruction
unfoldable pub used : Instruction → Uses
used (WithConstant op) = A
used ConditionalJump = A
used StoreLocal = A
used LoadNonLocalPointer = A
used LoadNonLocal = A
used StoreNonLocal = AAndB
used Call = All
used (Operate op) = used_by op
used i = Nothing

-- what an instruction uses for a PAR
unfoldable pub used_for_pars : Instruction → Uses
used_for_pars (Operate EndProcess) = A
used_for_pars (Operate StartProcess) = AAndB
used_for_pars i = Nothing
