-- The reference machine up to a number of bytes.
use Rattle.std.specs.Prelude.{◌≡◌, ⊤, ℕ, ◌+◌, ◌≤◌, true, false, List, [], Option, Some, None, Result, Ok, Err}
use Rattle.module_format.specs.Contents.{Contents}
use Rattle.machine_state.specs.declared.process.Exchange.{Exchange}
use Rattle.machine_state.specs.Exchanges.{bytes_at}
use Rattle.machine_state.specs.Happens.{emitted, ran, turn, happens}
use Rattle.machine_state.specs.LocalStep.{are_defined}
use Rattle.machine_state.specs.Memory.{Memory, place_of}
use Rattle.machine_state.specs.World.{World}
use Rattle.link_runs.specs.declared.driving.Progress.{Progress}
use Rattle.link_runs.specs.declared.driving.Progress.TheVariants as progresses
use Rattle.link_runs.specs.Driving.{IsReached}
use Rattle.link_runs.specs.FirstInFirstOut.{plain_step}
use Rattle.link_runs.specs.Wanting.{is_running}
use Rattle.machine.specs.declared.bounded.Cause.{Cause}
use Rattle.machine.specs.declared.bounded.Cause.TheVariants as causes
use Rattle.machine.specs.declared.checked.act.Act.{Act}
use Rattle.machine.specs.declared.checked.act.Act.TheVariants.{Emitted}
use Rattle.traffic.specs.declared.stop.Stop.{Stop}
use Rattle.traffic.specs.declared.stop.Stop.TheVariants.{Fault, Memory as NoMemory}

-- what the module says, the world at the moment, how many bytes may be executed, and what the last event sent
pub record BoundedExecution : Type 0 where
  pub contents : Contents
  pub world : World
  pub limit : ℕ
  pub last : List ℕ

-- the bytes of the message, if one was sent
abbrev pub bytes_of : Option Exchange → Memory → List ℕ
bytes_of None memory = []
bytes_of (Some e) memory = bytes_at memory (place_of e.address) e.length

-- all of them are defined
abbrev pub HasMessage : Option Exchange → Memory → Type 0
HasMessage None memory = ⊤
HasMessage (Some e) memory = are_defined memory e.address e.length ≡ true

abbrev pub cause_of : Stop → Cause
cause_of (Fault f) = causes.Fault f
cause_of NoMemory = causes.Memory

abbrev pub progress_by : Act → Option Progress
progress_by (Emitted link exchange) = Some (progresses.Emitted link)
progress_by _ = None

abbrev pub exchange_by : Act → Option Exchange
exchange_by (Emitted link exchange) = Some exchange
exchange_by _ = None

-- the machine is in this world, which events lead to
pub record Shows (b : BoundedExecution) (w : World) : Type 0 where
  pub is : b.world ≡ w
  pub reached : IsReached b.contents b.limit w

-- what stops a machine with this limit in this world
abbrev pub Because : ℕ → World → Cause → Type 0
Because limit w (causes.Fault f) = w.fault ≡ Some f
Because limit w causes.Limit = (limit ≤ w.counters.executed) × (is_running w ≡ true)
Because limit w causes.Memory = ⊤

pub record HasStopped (b : BoundedExecution) (w : World) (cause : Cause) : Type 0 where
  pub is : b.world ≡ w
  pub because : Because b.limit w cause

-- ---- one Step

module _ (before after : BoundedExecution) where
  -- the module and the limit stay
  pub record StaysThere : Type 0 where
    pub contents : after.contents ≡ before.contents
    pub limit : after.limit ≡ before.limit

  -- the process that runs has done a Step, to which nothing is at fault
  pub record HasStepped : Type 0 where
    pub runs : is_running before.world ≡ true
    pub world : after.world ≡ happens before.contents before.world plain_step
    pub reached : IsReached before.contents before.limit after.world

  -- no process is running, a message was emitted, or the next Step follows
  abbrev pub HasDone : Option Progress → Type 0
  HasDone (Some progresses.Idle) = (is_running before.world ≡ false) × (after.world ≡ before.world)
  HasDone (Some (progresses.Emitted link)) =
      HasStepped × ((turn before.contents before.world plain_step).answer ≡ Ok (emitted link after.last))
  HasDone None =
      HasStepped × ((turn before.contents before.world plain_step).answer ≡ Ok ran)
      × (after.world.counters.executed ≡ before.world.counters.executed + 1)

  -- the machine stopped of itself
  abbrev pub HasNotDone : Cause → Type 0
  HasNotDone (causes.Fault f) =
      ((turn before.contents before.world plain_step).answer ≡ Err f)
      × (after.world ≡ happens before.contents before.world plain_step)
  HasNotDone causes.Limit = (after.world ≡ before.world) × (before.limit ≤ before.world.counters.executed)
  HasNotDone causes.Memory = after.world ≡ before.world

abbrev pub StepDone : BoundedExecution → Result (Option Progress) Cause → BoundedExecution → Type 0
StepDone before (Ok progress) after = StaysThere before after × HasDone before after progress
StepDone before (Err cause) after =
    StaysThere before after × (is_running before.world ≡ true) × HasNotDone before after cause
