-- What is reported of a replay to a host, and what is handed over to it.
use Rattle.std.specs.Prelude.{◌≡◌, ℕ, ◌≤◌, Bool, true, false, List, [], ◌∷◌, ◌++◌, length, drop}
use Rattle.std.specs.Global.{Vec}
use Rattle.module_format.specs.Contents.{Contents}
use Rattle.machine_state.specs.declared.event.Event.{Event}
use Rattle.machine_state.specs.declared.link.Link.TheVariants.{Zero, One, Two, Three}
use Rattle.machine_state.specs.Happens.{world_after, emitted_on}
use Rattle.accepted_runs.specs.declared.report.Replay.{Replay}
use Rattle.accepted_runs.specs.Replaying.{out_on}
use Rattle.host_library.specs.declared.events.HostEvent.{HostEvent}
use Rattle.host_library.specs.declared.replaying.HostReport.{HostReport}
use Rattle.host_library.specs.Events.{AreEventsOf}

-- a flag as a number
abbrev pub flag_number : Bool → ℕ
flag_number true = 1
flag_number false = 0

-- all that went out on the links, one link's bytes after the other's
abbrev pub all_out : List (Vec ℕ) → List ℕ
all_out out = ((out_on out Zero ++ out_on out One) ++ out_on out Two) ++ out_on out Three

-- The report says what the replay does, but for the bytes that went out.
pub record IsReportOf (replay : Replay) (report : HostReport) : Type 0 where
  pub executed : report.executed ≡ replay.executed
  pub finished : report.finished ≡ flag_number replay.finished
  pub lengths : report.lengths ≡ length (out_on replay.out Zero) ∷ length (out_on replay.out One)
      ∷ length (out_on replay.out Two) ∷ length (out_on replay.out Three) ∷ []

-- all that the events emit on the links, one link's bytes after the other's
abbrev pub all_emitted : Contents → List Event → List ℕ
all_emitted m events =
    ((emitted_on m Zero events ++ emitted_on m One events) ++ emitted_on m Two events) ++ emitted_on m Three events

-- The report is that of the world after these events, and says how many bytes they emit on each link.
pub record IsReported (m : Contents) (events : List Event) (report : HostReport) : Type 0 where
  pub executed : report.executed ≡ (world_after m events).counters.executed
  pub finished : report.finished ≡ flag_number (world_after m events).counters.is_finished
  pub lengths : report.lengths ≡ length (emitted_on m Zero events) ∷ length (emitted_on m One events)
      ∷ length (emitted_on m Two events) ∷ length (emitted_on m Three events) ∷ []

-- What the host wrote are events. The report is that of the run over them, and this holds of all that they emit.
pub record HasReplayed (m : Contents) (given : List HostEvent) (report : HostReport) (holds_of : List ℕ → Type 0) :
    Type 0 where
  pub events : List Event
  pub are_events : AreEventsOf given events
  pub is_reported : IsReported m events report
  pub holds : holds_of (all_emitted m events)

-- The bytes that were sent are the first in the buffer, and the rest of it is as before.
pub record IsHandedOver (before after sent : List ℕ) : Type 0 where
  pub fits : length sent ≤ length before
  pub after_is : after ≡ sent ++ drop (length sent) before
