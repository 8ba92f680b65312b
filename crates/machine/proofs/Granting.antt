-- What is granted, beside the counters and the fault that the machine keeps.
use Rattle.std.proofs.Common.{◌≡◌, ℕ, true, false, List, Option, Result, Ok, Err, refl, sym, ap, subst, ◌∙◌}
use Rattle.machine_state.specs.declared.fault.Fault.{Fault}
use Rattle.machine_state.specs.Memory.{Memory}
use Rattle.machine_state.specs.World.{World, Counters}
use Rattle.machine_state.specs.declared.link.Link.{Link}
use Rattle.machine_state.specs.declared.process.Exchange.{Exchange}
use Rattle.machine_state.specs.declared.process.Registers.{Registers}
use Rattle.machine_state.specs.Asking.{scheduled}
use Rattle.machine_state.specs.Exchanges.{sent}
use Rattle.machine_state.specs.LocalStep.{are_defined}
use Rattle.machine_state.specs.Moves.{counted, dispatch}
use Rattle.machine_state.specs.Site.{Local, Outcome, sends}
use Rattle.machine_state.specs.Turn.{Turn, Here, ran, emitted, answered}
use Rattle.machine_state.specs.Endings as turns
use Rattle.machine_state.proofs.Turns.{settled_ends}
use Rattle.machine_state.specs.Endings.{TurnsInto}
use Rattle.traffic.specs.declared.stop.Stop.{Stop}
use Rattle.traffic.specs.declared.stop.Stop.TheVariants as stops
use Rattle.traffic.specs.Beside.{beside, counted_beside, CountsBeside}
use Rattle.module_format.specs.Contents.{Contents}
use Rattle.traffic.specs.declared.here.Here.{Here as Instance}
use Rattle.traffic.specs.declared.message.Message.{Message}
use Rattle.traffic.specs.Settling.{here_in, turn_for, Settles}
use Rattle.machine.specs.declared.checked.act.Act.{Act}
use Rattle.machine.specs.Applying.{Applies, Grants, ran_by, world_by}

granted_beside : (turn : World → Turn) → CountsBeside turn → (c : Counters) (f : Option Fault) (before after : World)
    (result : Result Act Stop) → Grants before after result (turn before)
    → Applies (beside c f before) (world_by result (beside c f after)) result (turn (beside c f before))
granted_beside turn counts c f before after (Ok act) grants =
    (counts c f before ∙ ap (counted_beside c f) grants.0, grants.1)
granted_beside turn counts c f before after (Err (stops.Fault fault)) grants =
    rw grants.1 (counts c f before ∙ ap (counted_beside c f) grants.0)
granted_beside turn counts c f before after (Err stops.Memory) grants = ap (beside c f) grants

-- the same turn, however its module and the world before are named
in_place : (turn : Here → Memory → World → Turn) (h : Instance) (m n : Contents) (v w after : World)
    (result : Result Act Stop) → n ≡ m → v ≡ w → Applies w after result (turn (here_in n h) w.memory w)
    → Applies v after result (turn (here_in m h) v.memory v)
in_place turn h m n v w after result modules worlds applies =
    subst (λ (c : Contents). Applies v after result (turn (here_in c h) v.memory v)) modules
    (subst (λ (u : World). Applies u after result (turn (here_in n h) u.memory u)) (sym worlds) applies)

-- What is granted, once the machine has kept the answer, as the module and the worlds are named there.
module _ (h : Instance) (m : Contents) (c : Counters) (f : Option Fault) (before world later kept_in : World)
    (granted kept : Result Act Stop) (worlds : world ≡ beside c f before) (same : kept ≡ granted)
    (is : later ≡ world_by granted kept_in) (n : Contents) (modules : n ≡ m) where
  pub granted_here : (turn : Here → Memory → World → Turn) → CountsBeside (turn (here_in n h) before.memory)
      → (after : World) (result : Result Act Stop)
      → Grants before after result (turn (here_in n h) before.memory before)
      → granted ≡ result → kept_in ≡ beside c f after → Applies world later kept (turn (here_in m h) world.memory world)
  granted_here turn counts after result grants by there =
      let last : later ≡ world_by result (beside c f after) =
      is ∙ (ap (λ (r : Result Act Stop). world_by r kept_in) by ∙ ap (world_by result) there) in
      in_place turn h m n world (beside c f before) later kept modules worlds (rw (same ∙ by, last)
      (granted_beside (turn (here_in n h) before.memory) counts c f before after result grants))

  -- of a message, received or sent
  pub message_here : (turn : Here → Exchange → Local → World → Turn)
      → ((h : Here) (e : Exchange) (l : Local) → CountsBeside (turn h e l))
      → (e : Exchange) (registers : Registers) (message : Message)
      → message ≡ record { here = h; exchange = e; registers = registers }
      → (after : World) (result : Result Act Stop) → Grants before after result (turn_for turn n message before)
      → granted ≡ result → kept_in ≡ beside c f after
      → Applies world later kept (turn (here_in m h) e (scheduled registers world.memory) world)
  message_here turn counts e registers message made after result grants =
      granted_here (λ (h : Here) (m : Memory). turn h e (scheduled registers m))
      (counts (here_in n h) e (scheduled registers before.memory)) after result
      (subst (λ (x : Message). Grants before after result (turn_for turn n x before)) made grants)

-- what settles with no effect of its own is granted
pub settles_granted : (before after : World) (turn : Turn) (result : Result (Unit {0}) Fault)
    → Settles before after ran result turn → Grants before after (ran_by result) turn
settles_granted before after turn (Ok done) settles = (settles, tt)
settles_granted before after turn (Err fault) settles = settles

-- ---- what goes out

-- memory stays when a message goes out, but for the words that are taken before
memory_sent : (h : Here) (w : World) (o : Outcome) (t : Turn) → TurnsInto h w o t → (e : Exchange) (l : Local)
    → o ≡ sends e l → (link : Link) (bytes : List ℕ) (after : World)
    → t ≡ answered (emitted link bytes) (counted after) → after.memory ≡ l.memory
unfolding dispatch
memory_sent h w o t (turns.at_fault refused) e l same link bytes after is =
    let answers = ap (λ (t : Turn). t.answer) is in absurd (cc)
memory_sent h w o t (turns.has_run moved) e l same link bytes after is =
    let answers = ap (λ (t : Turn). t.answer) is in absurd (cc)
memory_sent h w o t (turns.has_emitted f k on fits length) e l same link bytes after is =
    let local : l ≡ k = cc in
    sym (ap (λ (t : Turn). t.world.memory) is) ∙ ap (λ (l : Local). l.memory) (sym local)

pub emits_defined : (h : Here) (e : Exchange) (l : Local) (w after : World) (link : Link) (bytes : List ℕ)
    → sent h e l w ≡ answered (emitted link bytes) (counted after)
    → are_defined l.memory e.address e.length ≡ true → are_defined after.memory e.address e.length ≡ true
emits_defined h e l w after link bytes is defined =
    rw (memory_sent h w (sends e l) (sent h e l w) (settled_ends h w false (sends e l)) e l refl link bytes after is)
    defined
