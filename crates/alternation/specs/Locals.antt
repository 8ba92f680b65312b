-- How a process goes on after an instruction of an alternation.
use Rattle.std.specs.Prelude.{◌+◌, Bool, true, false, if◌then◌else◌, ℤ, pos, Option, Some, None}
use Rattle.machine_state.specs.declared.process.Mode.{Mode}
use Rattle.machine_state.specs.declared.process.Mode.TheVariants.{Disabling}
use Rattle.machine_state.specs.Alternations.{selected}
use Rattle.machine_state.specs.LocalStep.{with_a_alone}
use Rattle.machine_state.specs.Moves.{put}
use Rattle.machine_state.specs.Site.{Local}
use Rattle.machine_state.specs.Turn.{between}
use Rattle.machine_state.specs.World.{World}
use Rattle.traffic.specs.declared.here.Here.{Here}

-- the process goes on after the instruction, in this mode
abbrev pub after_in : Here → Mode → Local → World → World
after_in here mode l w =
    let registers = between (here.task.registers.at + 1) l.registers in
    put here.process (record here.task { registers = registers; mode = mode }) l.memory w

-- whether it selects this distance: if there is one and nothing is selected yet
abbrev pub selects : Mode → Option ℤ → Bool
selects mode None = false
selects mode (Some distance) = selected mode true distance

-- the same where it selects this distance or not: register A says whether it does
abbrev pub after_choice : Here → Option ℤ → Local → World → World
after_choice here ready l w =
    if selects here.task.mode ready
    then after_in here (Disabling ready) (with_a_alone (Some (pos 1)) l) w
    else after_in here here.task.mode (with_a_alone (Some (pos 0)) l) w
