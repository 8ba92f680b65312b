-- A byte stays that neither the running process may write nor any process waits to receive.
use Rattle.std.proofs.Common.{◌≡◌, ℕ, ◌+◌, ◌<◌, Bool, true, false, List, Option, Some, None, refl, sym, ap, ◌∙◌}
use Rattle.std.proofs.Common.{subst, slice_get}
use Rattle.std.proofs.lemmas.Bool.{leb-true, ltb-true, eqb-true, and_parts, false_from_ne_true}
use Rattle.std.specs.Prelude.{◌%◌, ◌^◌, ◌==◌, ⊤}
use Rattle.module_format.specs.Contents.{Contents}
use Rattle.machine_state.specs.declared.event.Event.{Event}
use Rattle.machine_state.specs.declared.event.Event.TheVariants.{Step, Arrive, Acknowledge}
use Rattle.machine_state.specs.declared.link.Link.{Link}
use Rattle.machine_state.specs.declared.process.Condition.{Condition}
use Rattle.machine_state.specs.declared.process.Condition.TheVariants.{Ready, Receiving}
use Rattle.machine_state.specs.declared.process.Exchange.{Exchange}
use Rattle.machine_state.specs.declared.process.Task.{Task}
use Rattle.machine_state.specs.Endings.{Moved, TurnsInto, Happened, local_here}
use Rattle.machine_state.specs.Endings as turns
use Rattle.machine_state.specs.Exchanges.{condition_of}
use Rattle.machine_state.specs.Happens.{turn, world_after}
use Rattle.machine_state.specs.Holding.{may_write}
use Rattle.machine_state.specs.Memory.{place_of, byte_at, Memory}
use Rattle.machine_state.specs.Moves.{link_index}
use Rattle.machine_state.specs.Site.{Outcome}
use Rattle.machine_state.specs.Turn.{Here, Turn, at_here}
use Rattle.machine_state.specs.Waiting.{WaitsOn}
use Rattle.machine_state.specs.World.{World, holding_at, input_word}
use Rattle.machine_state.specs.Writing.{Delivery, delivered_to, of_waiting, delivery_on, delivery_by, delivery}
use Rattle.machine_state.specs.Writing.{is_delivered, is_own, StepWrites}
use Rattle.machine_state.proofs.Turns.{turn_happens}
use Rattle.machine_state.proofs.Waiting.{arrivals_fill_buffers}
use Rattle.machine_state.proofs.Writing.{of_waiting_is, outcome_is, steps_write_own, arrivals_write_one}
use Rattle.machine_state.proofs.Writing.{acknowledgements_write_nothing}
use Rattle.world_laws.specs.Parked.{InBuffer}

-- the next byte that a process waits for on an input link comes here
pub record Arrives (w : World) (x : ℕ) : Type 0 where
  pub process : ℕ
  pub link : ℕ
  pub waits : WaitsOn w.tasks process (input_word link)
  pub is : x ≡ place_of ((waits.exchange.address + waits.done) % 2 ^ 32)

-- who may change a byte in the next event
pub data Reaches (w : World) (x : ℕ) : Type 0 where
  by_runner : (p : ℕ) → w.queue.running ≡ Some p → may_write (holding_at w.roles p) x ≡ true → Reaches w x
  by_message : (q : ℕ) (task : Task) (e : Exchange) → slice_get w.tasks q ≡ Some task → task.condition ≡ Receiving e
      → InBuffer e x → Reaches w x
  by_arrival : Arrives w x → Reaches w x

module _ (m : Contents) (w : World) (x : ℕ) (never : Reaches w x → ⊥) where
  not_own : is_own w x ≡ false
  not_own = false_from_ne_true (is_own w x) (on w.queue.running refl)
    where
      on : (o : Option ℕ) → w.queue.running ≡ o
          → elim o as (λ o. Bool) [ None ↦ false | Some p ↦ may_write (holding_at w.roles p) x ] ≡ true → ⊥
      on None runs own = cc
      on (Some p) runs own = never (by_runner p runs own)

  -- the other side of a message
  meets : (other : ℕ) (e wanted : Exchange) → condition_of w other ≡ Receiving wanted
      → (wanted.length == e.length) ≡ true
      → is_delivered (Some (record { sent = e; wanted = wanted })) x ≡ true → ⊥
  meets other e wanted waits same there = on (slice_get w.tasks other) refl waits
    where
      inside : InBuffer wanted x
      inside =
          let both = and_parts _ _ there in (
            leb-true (place_of wanted.address) x both.0,
            subst (λ n. x < place_of wanted.address + n) (sym (eqb-true wanted.length e.length same))
                (ltb-true x (place_of wanted.address + e.length) both.1),
          )

      on : (o : Option Task) → slice_get w.tasks other ≡ o
          → elim o as (λ o. Condition) [ None ↦ Ready | Some task ↦ task.condition ] ≡ Receiving wanted → ⊥
      on None here is = cc
      on (Some task) here is = never (by_message other task wanted here is inside)

  delivered_on : (d : Option Delivery) (e : Exchange) → delivery_on w e ≡ d → is_delivered (delivery_on w e) x ≡ true
      → is_delivered d x ≡ true
  delivered_on d e is there = subst (λ (d : Option Delivery). is_delivered d x ≡ true) is there

  module _ (h : Here) where
    moved_tells : (o : Outcome) (v : World) → Moved h w o v → is_delivered (delivery_by w o) x ≡ true → ⊥
    moved_tells o v (turns.sends_first e l c inside here none) there =
        let it = delivered_on None e (of_waiting_is _ w e (delivered_to e) c None inside here none) there in cc
    moved_tells o v (turns.sends_to e l c other wanted inside here waits is same) there =
        meets other e wanted is same
        (delivered_on (Some (record { sent = e; wanted = wanted })) e
        (of_waiting_is _ w e (delivered_to e) c (Some other) inside here waits ∙ ap (delivered_to e) is) there)
    moved_tells o v _ there = absurd (cc)

    ended_stays : (o : Outcome) (t : Turn) → TurnsInto h w o t → delivery m w ≡ delivery_by w o
        → StepWrites (is_own w) (delivery m w) w.memory t.world.memory t.answer
        → byte_at t.world.memory x ≡ byte_at w.memory x
    ended_stays o t (turns.at_fault refused) is writes = refl
    ended_stays o t (turns.has_run {after = v} moved) is writes =
        writes.others x not_own (false_from_ne_true _ (λ there. moved_tells o v moved
        (subst (λ (d : Option Delivery). is_delivered d x ≡ true) is there)))
    ended_stays o t (turns.has_emitted e l k on same) is writes =
        writes.others x not_own (false_from_ne_true _ (λ there.
        let none = delivered_on None e (ap (λ (k : Option ℕ). of_waiting k w e (delivered_to e)) on)
        (subst (λ (d : Option Delivery). is_delivered d x ≡ true) is there) in cc))

  abbrev StaysAt : Event → Turn → Type 0
  StaysAt (Step slice pick) t = StepWrites (is_own w) (delivery m w) w.memory t.world.memory t.answer
      → byte_at t.world.memory x ≡ byte_at w.memory x
  StaysAt (Arrive link byte) t = ⊤
  StaysAt (Acknowledge link) t = ⊤

  same_world : (e : Event) (t : Turn) → t.world ≡ w → StaysAt e t
  same_world (Step slice pick) t same = λ writes. ap (λ (v : World). byte_at v.memory x) same
  same_world (Arrive link byte) t same = tt
  same_world (Acknowledge link) t same = tt

  step_stays : (e : Event) (t : Turn) → Happened m w e t → StaysAt e t
  step_stays e t (turns.was_at_fault f is) = same_world e t refl
  step_stays e t (turns.it_rests rests) = same_world e t refl
  step_stays e t (turns.is_outside p task why runs here) = λ writes. refl
  step_stays e t (turns.is_prefix p task byte operand runs here at none it next) = λ writes. refl
  step_stays e t (turns.is_step {pick = pick} p task byte f runs here at is ends) = λ writes.
      ended_stays (at_here m p task pick) _ t ends
      (ap (λ (o : Option Outcome). elim o as (λ o. Option Delivery) [ None ↦ None | Some o ↦ delivery_by w o ])
      (outcome_is m w p task byte (Some f) runs here at is)) writes
  step_stays e t (turns.is_taken input p here waiting) = tt
  step_stays e t (turns.is_kept input here nobody empty) = tt
  step_stays e t (turns.is_acknowledged output p here waiting) = tt

-- an arrival, in a world that events lead to
pub stays_unarrived : (m : Contents) (es : List Event) (link : Link) (byte x : ℕ) → (Arrives (world_after m es) x → ⊥)
    → byte_at (turn m (world_after m es) (Arrive link byte)).world.memory x ≡ byte_at (world_after m es).memory x
stays_unarrived m es link byte x never = (arrivals_write_one m (world_after m es) link byte).others x (λ wanted.
    let it = arrivals_fill_buffers m es link x wanted in
    never (record { process = it.process; link = link_index link; waits = it.waits; is = it.is }))

-- a step
pub stays_unreached : (m : Contents) (es : List Event) (slice : Bool) (pick x : ℕ)
    → (Reaches (world_after m es) x → ⊥)
    → byte_at (turn m (world_after m es) (Step slice pick)).world.memory x ≡ byte_at (world_after m es).memory x
stays_unreached m es slice pick x never =
    let w = world_after m es in
    step_stays m w x never (Step slice pick) (turn m w (Step slice pick)) (turn_happens m w (Step slice pick))
    (steps_write_own m w slice pick)

-- any event
pub stays : (m : Contents) (es : List Event) (e : Event) (x : ℕ) → (Reaches (world_after m es) x → ⊥)
    → byte_at (turn m (world_after m es) e).world.memory x ≡ byte_at (world_after m es).memory x
stays m es (Step slice pick) x never = stays_unreached m es slice pick x never
stays m es (Arrive link byte) x never = stays_unarrived m es link byte x (λ a. never (by_arrival a))
stays m es (Acknowledge link) x never =
    ap (λ (y : Memory). byte_at y x) (acknowledgements_write_nothing m (world_after m es) link)
