-- Where an instruction leads, and what the label there wants, in words.
use Rattle.std.specs.Prelude.{ℕ, ℤ, ◌++◌}
use Rattle.module_format.specs.Contents.{Contents}
use Rattle.machine_state.specs.declared.op.Op.TheVariants.{AlternationEnd}
use Rattle.machine_state.specs.declared.instruction.Instruction.{Instruction}
use Rattle.machine_state.specs.declared.instruction.Instruction.TheVariants.{Operate}
use Rattle.states.specs.State.{State}
use Rattle.fact_texts.specs.Texts.{Text}
use Rattle.explanation_parts.specs.Leads.{lead_of, lead_lack}
use Rattle.explanation_parts.specs.Modes.{guards_found}
use Rattle.explanation_parts.specs.Places.{target_found}
use Rattle.explanation_parts.specs.Registers.{registers_found}
use Rattle.explanation_parts.specs.Uses.{used_by}

-- where an instruction leads, or by what: guards, or registers
unfoldable pub way_found : Instruction → ℕ → ℤ → State → Text
way_found (Operate AlternationEnd) next e s = guards_found s
way_found (Operate op) next e s = registers_found (used_by op) s.stack
way_found i next e s = target_found next e

-- where an instruction leads, and what the label there wants that is not known
unfoldable pub label_found : Contents → Instruction → ℕ → ℤ → State → Text
label_found m i next e s = way_found i next e s ++ lead_lack m next s (lead_of i e s.stack)
