-- Whether what is enabled is ready.
use Rattle.std.specs.Prelude.{Bool, false}
use Rattle.machine_state.specs.declared.process.Mode.{Mode}
use Rattle.machine_state.specs.declared.process.Mode.TheVariants.{Enabling}

-- whether something is ready that a process in this mode has enabled
abbrev pub is_ready_in : Mode → Bool
is_ready_in (Enabling is_ready) = is_ready
is_ready_in mode = false
