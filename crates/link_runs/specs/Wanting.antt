-- What can be asked of a machine. The questions are our own choice: what a runner of the links has to know.
use Rattle.std.specs.Prelude.{Bool, false, ◌&&◌, ◌||◌, is_some, is_none, Some, None, slice_get}
use Rattle.machine_state.specs.declared.link.Link.{Link}
use Rattle.machine_state.specs.declared.link.InputLink.{InputLink}
use Rattle.machine_state.specs.Moves.{link_index}
use Rattle.machine_state.specs.World.{World}

-- whether some process runs
abbrev pub is_running : World → Bool
is_running w = is_some w.queue.running

-- some process waits for a byte on the link or has enabled it, and none is kept there
abbrev pub asks : InputLink → Bool
asks input = is_none input.kept && (is_some input.waiting || is_some input.enabled)

abbrev pub wants : Link → World → Bool
wants link w = elim (slice_get w.links.inputs (link_index link)) [ None ↦ false | Some input ↦ asks input ]
