-- How many processes there can be.
use Rattle.std.specs.Prelude.{◌+◌, ◌≤◌, List, length}
use Rattle.module_format.specs.Contents.{Contents}
use Rattle.machine_state.specs.declared.event.Event.{Event}
use Rattle.machine_state.specs.Happens.{world_after}

-- each process but the root was started by an instruction, which has a byte at least
abbrev pub TasksAreCounted : Type 0
TasksAreCounted = (m : Contents) (es : List Event)
    → let w = world_after m es in length w.tasks ≤ w.counters.executed + 1
