-- Where no process runs, none is ready.
use Rattle.std.specs.Prelude.{◌≡◌, ℕ, Bool, List, [], true, None, slice_get}
use Rattle.std.specs.Option.{option_map_or}
use Rattle.module_format.specs.Contents.{Contents}
use Rattle.machine_state.specs.declared.event.Event.{Event}
use Rattle.machine_state.specs.World.{World}
use Rattle.machine_state.specs.Happens.{world_after}
use Rattle.link_runs.specs.Deadlocks.{is_quiet_input, is_quiet_output}

-- Events lead to this world.
pub record IsWorldOf (m : Contents) (w : World) : Type 0 where
  pub events : List Event
  pub world : w ≡ world_after m events

-- so it is where this holds
abbrev pub IsKnownIf : Bool → Contents → World → Type 0
IsKnownIf holds m w = holds ≡ true → IsWorldOf m w

abbrev pub NobodyIsReadyAtRest : Type 0
NobodyIsReadyAtRest = (m : Contents) (w : World) → IsWorldOf m w → w.queue.running ≡ None → w.queue.ready ≡ []

-- no process waits on the input link of this number, and none has enabled it
abbrev pub is_quiet_at_input : World → ℕ → Bool
is_quiet_at_input w k = option_map_or is_quiet_input (slice_get w.links.inputs k) true

-- no process waits on the output link of this number
abbrev pub is_quiet_at_output : World → ℕ → Bool
is_quiet_at_output w k = option_map_or is_quiet_output (slice_get w.links.outputs k) true
