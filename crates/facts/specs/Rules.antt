-- The rule of each instruction: what it wants of the state before it, and what it leaves. Each family of instructions
-- has its rules in a crate of its own; this is the table of all.
use Rattle.std.specs.Prelude.{ℕ, Bool, true, false, ℤ, Option, Some, None}
use Rattle.prefix_decoder.specs.declared.function.Fun.{Fun}
use Rattle.prefix_decoder.specs.declared.decoding.Instr.{Instr}
use Rattle.module_format.specs.Contents.{Contents}
use Rattle.machine_state.specs.declared.op.Op.{Op}
use Rattle.machine_state.specs.declared.op.Op.TheVariants.{Long, Return, Input, Output, Alternate, EnableChannel}
use Rattle.machine_state.specs.declared.op.Op.TheVariants.{EnableSkip, AlternationWait, DisableChannel, DisableSkip}
use Rattle.machine_state.specs.declared.op.Op.TheVariants.{AlternationEnd, StartProcess, EndProcess}
use Rattle.machine_state.specs.declared.instruction.Instruction.{Instruction}
use Rattle.machine_state.specs.declared.instruction.Instruction.TheVariants.{Operate, Call}
use Rattle.machine_state.specs.Instructions.{instruction_of}
use Rattle.states.specs.declared.rule.Rule.TheVariants as rules
use Rattle.states.specs.State.{State}
use Rattle.rulings.specs.Rulings.{Ruling, breaks, Site}
use Rattle.call_rules.specs.CallRules.{call_rule, return_rule}
use Rattle.local_rules.specs.LocalRules.{local_operation_rule, local_rule}
use Rattle.message_rules.specs.MessageRules.{message_rule}
use Rattle.alternation_rules.specs.AlternationRules.{alternation_rule, altend_rule}
use Rattle.par_rules.specs.ParRules.{startp_rule, endp_rule}
use Rattle.facts.specs.declared.way.Way.{Way}
use Rattle.facts.specs.declared.way.Way.TheVariants.{GoesOn, EndsAlternation, StartsBranch}

-- the rule of an operation, by the family that has it
unfoldable pub operation_rule : Site → Op → State → Ruling
operation_rule site Return s = return_rule site s
operation_rule site Input s = message_rule site Input s
operation_rule site Output s = message_rule site Output s
operation_rule site Alternate s = alternation_rule site Alternate s
operation_rule site EnableChannel s = alternation_rule site EnableChannel s
operation_rule site EnableSkip s = alternation_rule site EnableSkip s
operation_rule site AlternationWait s = alternation_rule site AlternationWait s
operation_rule site DisableChannel s = alternation_rule site DisableChannel s
operation_rule site DisableSkip s = alternation_rule site DisableSkip s
operation_rule site AlternationEnd s = altend_rule site s
operation_rule site StartProcess s = startp_rule site s
operation_rule site EndProcess s = endp_rule site s
operation_rule site op s = local_operation_rule site op s

-- the rule of an instruction
unfoldable pub instruction_rule : Site → Instruction → ℤ → State → Ruling
instruction_rule site Call e s = call_rule site e s
instruction_rule site (Operate op) e s = operation_rule site op s
instruction_rule site i e s = local_rule site i e s

-- the rule of an instruction that the machine has
unfoldable pub rule_of : Site → Option Instruction → ℤ → State → Ruling
rule_of site None e s = breaks rules.Spelling
rule_of site (Some instruction) e s = instruction_rule site instruction e s

unfoldable pub rule : Site → Fun → ℤ → State → Ruling
rule site f e s = rule_of site (instruction_of f e) e s

-- the rule for the instruction at an offset
abbrev pub rule_at : Contents → ℕ → Instr → State → Ruling
rule_at m at i s = rule (record { contents = m; at = at; length = i.len }) i.fun i.operand s

-- Whether an operation is one of the machine for a module: the long ones are where the module says so.
abbrev pub is_operation : Contents → Op → Bool
is_operation m (Long op) = m.has_long_operations
is_operation m _ = true

abbrev pub is_known : Contents → Instruction → Bool
is_known m (Operate op) = is_operation m op
is_known m _ = true

-- Whether this is an instruction of the machine for a module. What is none breaks `Spelling` in every state.
unfoldable pub is_instruction : Contents → Instr → Bool
is_instruction m i =
    elim (instruction_of i.fun i.operand) [ None ↦ false | Some instruction ↦ is_known m instruction ]

-- the place of the instruction at an offset
abbrev pub site_at : Contents → ℕ → Instr → Site
site_at m at i = record { contents = m; at = at; length = i.len }

-- ---- ways

-- how a process goes on after an instruction
abbrev pub way_of_operation : Op → Way
way_of_operation AlternationEnd = EndsAlternation
way_of_operation StartProcess = StartsBranch
way_of_operation op = GoesOn

abbrev pub way_of_known : Instruction → Way
way_of_known (Operate op) = way_of_operation op
way_of_known i = GoesOn

-- so it is of what is an instruction or none
abbrev pub way_of_decoded : Option Instruction → Way
way_of_decoded None = GoesOn
way_of_decoded (Some instruction) = way_of_known instruction

unfoldable pub way_of : Instr → Way
way_of i = way_of_decoded (instruction_of i.fun i.operand)

-- ---- instructions of PARs

abbrev pub is_of_pars : Op → Bool
is_of_pars StartProcess = true
is_of_pars EndProcess = true
is_of_pars op = false

-- whether an instruction starts a branch or ends a process
abbrev pub has_pars : Option Instruction → Bool
has_pars (Some (Operate op)) = is_of_pars op
has_pars i = false
