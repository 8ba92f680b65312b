-- Modes, guards, and what is used for a PAR, in words.
use Rattle.std.specs.Prelude.{length, ◌++◌, codes}
use Rattle.std.specs.Fmt.{decimal}
use Rattle.machine_state.specs.declared.instruction.Instruction.{Instruction}
use Rattle.states.specs.declared.known.Mode.{Mode}
use Rattle.states.specs.State.{State}
use Rattle.fact_texts.specs.Texts.{Text}
use Rattle.state_texts.specs.StateTexts.{mode_text}
use Rattle.explanation_parts.specs.Registers.{more_registers}
use Rattle.explanation_parts.specs.Uses.{used_for_pars}

unfoldable pub mode_found : Mode → Text
mode_found mode = codes "the mode is " ++ mode_text mode

unfoldable pub count_found : State → Text
count_found s = codes ", guards: " ++ decimal (length s.guards)

unfoldable pub guards_found : State → Text
guards_found s = mode_found s.mode ++ count_found s

unfoldable pub par_found : Instruction → State → Text
par_found i s = mode_found s.mode ++ more_registers (used_for_pars i) s.stack
