-- What a replay reports of a run.
use Rattle.std.specs.Prelude.{◌≡◌, ℕ, List, [], ◌++◌, Option, Some, None, Result, slice_get}
use Rattle.std.specs.Global.{Vec}
use Rattle.module_format.specs.Contents.{Contents}
use Rattle.machine_state.specs.declared.event.Event.{Event}
use Rattle.machine_state.specs.declared.link.Link.{Link}
use Rattle.machine_state.specs.Moves.{link_index}
use Rattle.machine_state.specs.declared.fault.Fault.{Fault}
use Rattle.machine_state.specs.Happens.{Effect, world_after, emitted_by, emitted_on}
use Rattle.accepted_runs.specs.declared.report.Replay.{Replay}

abbrev pub bytes_of : Option (Vec ℕ) → List ℕ
bytes_of None = []
bytes_of (Some bytes) = bytes.items

-- what went out on a link, where the bytes of each link are at its number
abbrev pub out_on : List (Vec ℕ) → Link → List ℕ
out_on out link = bytes_of (slice_get out (link_index link))

-- The replay reports the world after these events, and for each link all that they emitted there.
pub record Tells (m : Contents) (events : List Event) (r : Replay) : Type 0 where
  pub finished : r.finished ≡ (world_after m events).counters.is_finished
  pub executed : r.executed ≡ (world_after m events).counters.executed
  pub out : (link : Link) → out_on r.out link ≡ emitted_on m link events

-- what went out on each link is followed by what this answer emits there
abbrev pub GoesOut : Result Effect Fault → List (Vec ℕ) → List (Vec ℕ) → Type 0
GoesOut answer old new = (link : Link) → out_on new link ≡ out_on old link ++ emitted_by link answer
