-- Machines that hosts hold, and what is reported of them.
use Rattle.std.specs.Prelude.{◌≡◌, ℕ, ◌==◌, if◌then◌else◌, List, [], ◌∷◌, length, Option, Some, None, IsSomeAnd, Ok}
use Rattle.std.specs.Option.{option_map}
use Rattle.module_format.specs.Contents.{Contents}
use Rattle.machine_state.specs.declared.event.Event.{Event}
use Rattle.machine_state.specs.declared.link.Link.TheVariants.{Zero, One, Two, Three}
use Rattle.machine_state.specs.World.{World, loaded}
use Rattle.machine_state.specs.Happens.{Effect, ran, idle, emitted, taken, kept, busy, acknowledged, ignored, turn}
use Rattle.machine_state.specs.Happens.{happens}
use Rattle.link_runs.specs.Wanting.{is_running, wants}
use Rattle.accepted_runs.specs.Running.{PlainExecution, Shows}
use Rattle.kept_runs.specs.RunningOn.{HasRunOn}
use Rattle.kept_runs.specs.declared.running_on.RunReport.{RunReport}
use Rattle.kept_runs.specs.declared.running_on.RunStop.{RunStop}
use Rattle.kept_runs.specs.declared.running_on.RunStop.TheVariants as stops
use Rattle.host_library.specs.declared.effects.HostEffect.{HostEffect}
use Rattle.host_library.specs.declared.effects.HostProgress.{HostProgress}
use Rattle.host_library.specs.declared.effects.HostState.{HostState}
use Rattle.host_library.specs.declared.effects.TheConstants.{RAN, IDLE, EMITTED, TAKEN, KEPT, BUSY, ACKNOWLEDGED}
use Rattle.host_library.specs.declared.effects.TheConstants.{IGNORED}
use Rattle.host_library.specs.Events.{link_numbered}
use Rattle.host_library.specs.Replays.{flag_number}

-- the effect that is reported so of an event whose message, if it sent one, is this
abbrev pub effect_in : HostEffect → List ℕ → Option Effect
effect_in e message =
    if e.kind == RAN then Some ran else
    if e.kind == IDLE then Some idle else
    if e.kind == EMITTED then option_map (λ link. emitted link message) (link_numbered e.link) else
    if e.kind == TAKEN then Some taken else
    if e.kind == KEPT then Some kept else
    if e.kind == BUSY then Some busy else
    if e.kind == ACKNOWLEDGED then Some acknowledged else
    if e.kind == IGNORED then Some ignored else None

-- why a run stopped that is reported so
abbrev pub stop_in : HostProgress → Option RunStop
stop_in p =
    if p.kind == RAN then Some stops.AtLimit else
    if p.kind == IDLE then Some stops.Idle else
    if p.kind == EMITTED then option_map stops.Emitted (link_numbered p.link) else None

-- The run is that of this module, and agrees with the loaded world.
pub record IsLoaded (m : Contents) (run : PlainExecution) : Type 0 where
  pub contents : run.contents ≡ m
  pub shows : Shows run (loaded m)

-- A run is loaded before and after, and this holds of both.
abbrev pub Moves : Option PlainExecution → Option PlainExecution → (PlainExecution → PlainExecution → Type 0) → Type 0
Moves before after holds_of = IsSomeAnd before (λ from. IsSomeAnd after (λ to. holds_of from to))

-- In this world the event does what is reported, and the run agrees with the world after it.
pub record Answers (m : Contents) (w : World) (e : Event) (told : HostEffect) (after : PlainExecution) : Type 0 where
  pub effect : Effect
  pub told_is : effect_in told after.last ≡ Some effect
  pub answer : (turn m w e).answer ≡ Ok effect
  pub shows : Shows after (happens m w e)

-- So it is in each world that the run agreed with.
pub record HasHappened (e : Event) (told : HostEffect) (before after : PlainExecution) : Type 0 where
  pub contents : after.contents ≡ before.contents
  pub answers : (w : World) → Shows before w → Answers before.contents w e told after

-- From each world that the run agreed with, it has gone on as is reported.
pub record HasProgressed (limit : ℕ) (told : HostProgress) (before after : PlainExecution) : Type 0 where
  pub contents : after.contents ≡ before.contents
  pub report : RunReport
  pub executed : told.executed ≡ report.executed
  pub stop : stop_in told ≡ Some report.stop
  pub runs : (w : World) → Shows before w
      → HasRunOn before.contents w limit report after.last (Shows after)

-- The state is that of each world that the run agrees with, and says how long its message is.
pub record IsState (state : HostState) (run : PlainExecution) : Type 0 where
  pub message : state.message ≡ length run.last
  pub executed : (w : World) → Shows run w → state.executed ≡ w.counters.executed
  pub running : (w : World) → Shows run w → state.is_running ≡ flag_number (is_running w)
  pub finished : (w : World) → Shows run w → state.is_finished ≡ flag_number w.counters.is_finished
  pub wanted : (w : World) → Shows run w → state.wants ≡ flag_number (wants Zero w) ∷ flag_number (wants One w)
      ∷ flag_number (wants Two w) ∷ flag_number (wants Three w) ∷ []
