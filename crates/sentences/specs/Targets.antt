-- How far that is which an instruction starts or calls, and what begins there.
use Rattle.std.specs.Prelude.{ℕ, ℤ, [], Option, Some, None}
use Rattle.module_format.specs.declared.stack.Stack.{Stack}
use Rattle.module_format.specs.Contents.{Contents}
use Rattle.certificate.specs.Branches.{branch_at}
use Rattle.machine_state.specs.declared.op.Op.TheVariants.{StartProcess}
use Rattle.machine_state.specs.declared.instruction.Instruction.{Instruction}
use Rattle.machine_state.specs.declared.instruction.Instruction.TheVariants.{Call, Operate}
use Rattle.machine_state.specs.LocalStep.{target}
use Rattle.states.specs.declared.known.Known.{Known}
use Rattle.fact_texts.specs.Texts.{Text}
use Rattle.found_parts.specs.Messages.{constant_of}
use Rattle.explanation_parts.specs.Begun.{branch_begun}

-- how far a branch is that an instruction starts
unfoldable pub branch_target : Instruction → Stack Known → Option ℤ
branch_target (Operate StartProcess) stack = constant_of stack.b.fact
branch_target i stack = None

-- which branch begins where an instruction starts one
abbrev pub branch_part : Contents → ℕ → Option ℤ → Text
branch_part m next None = []
branch_part m next (Some distance) = branch_begun m (branch_at m (target next distance))

-- how far the row is of the procedure or the branch to which an instruction leads
unfoldable pub row_target : Instruction → ℤ → Stack Known → Option ℤ
row_target Call e stack = Some e
row_target i e stack = branch_target i stack
