-- A new process.
use Rattle.std.specs.Prelude.{[], ◌∷◌, ◌++◌}
use Rattle.machine_state.specs.declared.process.Task.{Task}
use Rattle.machine_state.specs.World.{World, Role}

-- this one is there too, with the next number
abbrev pub with_process : Task → Role → World → World
with_process task role w = record w { tasks = w.tasks ++ task ∷ []; roles = w.roles ++ role ∷ [] }
