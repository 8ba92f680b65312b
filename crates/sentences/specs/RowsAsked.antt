-- The rows of what an instruction leads to, where they are asked.
use Rattle.std.specs.Prelude.{ℕ, ℤ, [], ◌++◌, Option, Some, None}
use Rattle.std.specs.List.{flat_map}
use Rattle.prefix_decoder.specs.declared.decoding.Instr.{Instr}
use Rattle.module_format.specs.declared.stack.Stack.{Stack}
use Rattle.module_format.specs.Contents.{Contents, Par, Branch}
use Rattle.certificate.specs.Branches.{Forked, branch_at, numbered_branch}
use Rattle.machine_state.specs.declared.op.Op.TheVariants.{EndProcess, AlternationEnd}
use Rattle.machine_state.specs.declared.instruction.Instruction.{Instruction}
use Rattle.machine_state.specs.declared.instruction.Instruction.TheVariants.{Operate}
use Rattle.machine_state.specs.Instructions.{instruction_of}
use Rattle.machine_state.specs.LocalStep.{target}
use Rattle.states.specs.declared.known.Guard.{Guard}
use Rattle.states.specs.declared.known.Known.{Known}
use Rattle.states.specs.declared.rule.Rule.{Rule}
use Rattle.states.specs.declared.rule.Rule.TheVariants as rules
use Rattle.states.specs.State.{State}
use Rattle.fact_texts.specs.Texts.{Text}
use Rattle.sentences.specs.Targets.{branch_target, row_target}
use Rattle.explanation_parts.specs.Rows.{rows_text}

-- ---- procedures and branches

-- how far the row is that a rule asks of an instruction
unfoldable pub row_distance : Rule → Instruction → ℤ → Stack Known → Option ℤ
row_distance rules.Spelling i e stack = None
row_distance rules.InstructionStart i e stack = None
row_distance rules.Flow i e stack = None
row_distance rules.UnknownRegister i e stack = None
row_distance rules.Alternation i e stack = None
row_distance rules.Par i e stack = branch_target i stack
row_distance rule i e stack = row_target i e stack

unfoldable pub rows_at : Contents → ℕ → Option ℤ → Text
rows_at m next None = []
rows_at m next (Some distance) = rows_text m (target next distance)

-- ---- after PARs

-- where the PAR goes on of a branch that begins
abbrev pub joined_at : Option Forked → Option ℕ
joined_at None = None
joined_at (Some f) = Some f.par.successor

-- where the PAR goes on of a branch
abbrev pub joined_by : Option (Par × Branch) → Option ℕ
joined_by None = None
joined_by (Some found) = Some found.0.successor

-- where the PAR goes on of which a branch is started at a distance
abbrev pub started_par : Contents → ℕ → Option ℤ → Option ℕ
started_par m next None = None
started_par m next (Some distance) = joined_at (branch_at m (target next distance))

-- where the PAR goes on that an instruction ends
unfoldable pub ended_par : Contents → Instruction → ℕ → Option ℕ
ended_par m (Operate EndProcess) context = joined_by (numbered_branch m context)
ended_par m i context = None

-- the first, if there is one, or else the second
abbrev pub first_of : Option ℕ → Option ℕ → Option ℕ
first_of (Some offset) second = Some offset
first_of None second = second

-- where the PAR goes on of which a rule asks
unfoldable pub successor_of : Contents → Rule → Instruction → ℕ → State → Option ℕ
successor_of m rules.Label i next s =
    first_of (started_par m next (branch_target i s.stack)) (ended_par m i s.context)
successor_of m rules.Forward i next s = started_par m next (branch_target i s.stack)
successor_of m rules.Par i next s = started_par m next (branch_target i s.stack)
successor_of m rules.Budget i next s = started_par m next (branch_target i s.stack)
successor_of m rule i next s = None

abbrev pub rows_of : Contents → Option ℕ → Text
rows_of m None = []
rows_of m (Some at) = rows_text m at

-- ---- where guards lead

abbrev pub exit_rows : Contents → ℕ → Guard → Text
exit_rows m next guard = rows_at m next guard.exit

-- the rows where the guards of an alternation lead that an instruction ends
unfoldable pub exits_of : Contents → Instruction → ℕ → State → Text
exits_of m (Operate AlternationEnd) next s = flat_map (exit_rows m next) s.guards
exits_of m i next s = []

-- ---- all

-- the rows where a PAR goes on, and those where guards lead
unfoldable pub rows_behind : Contents → Rule → Instruction → ℕ → State → Text
rows_behind m rule i next s = rows_of m (successor_of m rule i next s) ++ exits_of m i next s

-- the rows that a rule asks of an instruction
unfoldable pub rows_there : Contents → Rule → Instruction → ℕ → ℤ → State → Text
rows_there m rule i next e s = rows_at m next (row_distance rule i e s.stack) ++ rows_behind m rule i next s

abbrev pub rows_by : Contents → ℕ → ℤ → Rule → State → Option Instruction → Text
rows_by m next e rule s None = []
rows_by m next e rule s (Some i) = rows_there m rule i next e s

-- the rows that a rule asks of the instruction before an offset
unfoldable pub rows_asked : Contents → ℕ → Instr → Rule → State → Text
rows_asked m next instr rule s = rows_by m next instr.operand rule s (instruction_of instr.fun instr.operand)
