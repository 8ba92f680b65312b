-- What a machine does that is driven event by event, and that may stop of itself.
use Rattle.std.specs.Prelude.{◌≡◌, ⊤, ℕ, ◌≤◌, true, false, List, None, Result, Ok, Err}
use Rattle.module_format.specs.Contents.{Contents}
use Rattle.machine_state.specs.declared.event.Effect.{Effect as LentEffect}
use Rattle.machine_state.specs.declared.event.Effect.TheVariants as effects
use Rattle.machine_state.specs.declared.event.Event.{Event}
use Rattle.machine_state.specs.declared.fault.Fault.{Fault}
use Rattle.machine_state.specs.declared.link.Link.{Link}
use Rattle.machine_state.specs.World.{World}
use Rattle.machine_state.specs.Happens.{Effect, ran, idle, emitted, taken, kept, busy, acknowledged, ignored, turn}
use Rattle.machine_state.specs.Happens.{happens, world_after}
use Rattle.link_runs.specs.FirstInFirstOut.{plain_step}
use Rattle.link_runs.specs.Wanting.{is_running}
use Rattle.link_runs.specs.declared.driving.Progress.{Progress}
use Rattle.link_runs.specs.declared.driving.Progress.TheVariants as progresses
use Rattle.link_runs.specs.declared.driving.Reaction.{Reaction}
use Rattle.link_runs.specs.declared.driving.Reaction.TheVariants as reactions

-- Events lead to this world, nothing is at fault there, and no more was executed than this limit.
pub record IsReached (m : Contents) (limit : ℕ) (w : World) : Type 0 where
  pub events : List Event
  pub world : w ≡ world_after m events
  pub no_fault : w.fault ≡ None
  pub within_limit : w.counters.executed ≤ limit

-- the machine is in some world
abbrev pub IsShown : {M : Type 0} → (M → World → Type 0) → M → Type 0
IsShown shows machine = (w : World) × shows machine w

-- Steps that emit nothing lead from the one world to the other.
pub data Quietly (m : Contents) (before : World) : World → Type 0 where
  at_once : Quietly m before before
  goes_on : (w : World) → Quietly m before w → is_running w ≡ true → (turn m w plain_step).answer ≡ Ok ran
      → Quietly m before (happens m w plain_step)

-- After such Steps no process is running.
pub record ComesToRest (m : Contents) (before : World) (shown : World → Type 0) : Type 0 where
  pub world : World
  pub quietly : Quietly m before world
  pub nobody_runs : is_running world ≡ false
  pub is_shown : shown world

-- After such Steps one more emits this message.
pub record ComesToEmit (m : Contents) (before : World) (link : Link) (message : List ℕ)
    (shown : World → Type 0) : Type 0 where
  pub world : World
  pub quietly : Quietly m before world
  pub runs : is_running world ≡ true
  pub emits : (turn m world plain_step).answer ≡ Ok (emitted link message)
  pub is_shown : shown (happens m world plain_step)

-- Where the machine stopped of itself at this event: it is at fault by the event, or in the world where it was.
pub data StopsAt (m : Contents) (w : World) (e : Event) (stopped : World → Type 0) : Type 0 where
  at_fault : (f : Fault) → (turn m w e).answer ≡ Err f → stopped (happens m w e) → StopsAt m w e stopped
  before_it : stopped w → StopsAt m w e stopped

-- After such Steps the machine stopped of itself at the next one.
pub record ComesToStop (m : Contents) (before : World) (stopped : World → Type 0) : Type 0 where
  pub world : World
  pub quietly : Quietly m before world
  pub runs : is_running world ≡ true
  pub stops : StopsAt m world plain_step stopped

-- what was done by the machine when it was to go on
abbrev pub Proceeds : {S : Type 0} → Contents → World → Result Progress S → List ℕ → (World → Type 0)
    → (World → S → Type 0) → Type 0
Proceeds m before (Ok progresses.Idle) last shown stopped = ComesToRest m before shown
Proceeds m before (Ok (progresses.Emitted link)) last shown stopped = ComesToEmit m before link last shown
Proceeds m before (Err stop) last shown stopped = ComesToStop m before (λ w. stopped w stop)

-- The event happened, or the machine stopped of itself at it.
abbrev pub Takes : {S : Type 0} → Contents → World → Event → Result ⊤ S → (World → Type 0) → (World → S → Type 0)
    → Type 0
Takes m w e (Ok done) shown stopped = shown (happens m w e)
Takes m w e (Err stop) shown stopped = StopsAt m w e (λ v. stopped v stop)

-- what a reaction reports
abbrev pub reported : Reaction → List ℕ → Effect
reported reactions.Ran last = ran
reported reactions.Idle last = idle
reported (reactions.Emitted link) last = emitted link last
reported reactions.Taken last = taken
reported reactions.Kept last = kept
reported reactions.Busy last = busy
reported reactions.Acknowledged last = acknowledged
reported reactions.Ignored last = ignored

-- what an effect reports
abbrev pub shown : LentEffect → Effect
shown effects.Ran = ran
shown effects.Idle = idle
shown (effects.Emitted link bytes) = emitted link bytes.now
shown effects.Taken = taken
shown effects.Kept = kept
shown effects.Busy = busy
shown effects.Acknowledged = acknowledged
shown effects.Ignored = ignored

-- The event happened, and this reports what it did.
pub record HasReacted (m : Contents) (w : World) (e : Event) (reaction : Reaction) (last : List ℕ)
    (shown : World → Type 0) : Type 0 where
  pub answer : (turn m w e).answer ≡ Ok (reported reaction last)
  pub is_shown : shown (happens m w e)
