-- Which bytes an event changes, and which it reads.
use Rattle.std.proofs.Common.{◌≡◌, ◌≢◌, ℕ, ◌+◌, Bool, true, false, inl, inr, length, ℤ}
use Rattle.std.proofs.Common.{List, Option, Some, None, Result, Ok, Err, refl, sym, ap, ◌∙◌, subst, arith, eqb-true}
use Rattle.std.specs.Prelude.{slice_get, nat_le, nat_lt}
use Rattle.std.proofs.lemmas.Bool.{and_parts, leb-true, ltb-true, cases_eq}
use Rattle.small_laws.proofs.Options.{same_some}
use Rattle.prefix_decoder.specs.declared.function.Fun.{Fun}
use Rattle.prefix_decoder.specs.Functions.{nibble}
use Rattle.prefix_decoder.specs.Operand.{with_nibble}
use Rattle.module_format.specs.declared.rows.Direction.TheVariants.{In, Out}
use Rattle.module_format.specs.Contents.{Contents}
use Rattle.module_format.specs.Keeping.{Keeps}
use Rattle.machine_state.specs.declared.event.Event.{Event}
use Rattle.machine_state.specs.declared.event.Event.TheVariants.{Step, Arrive, Acknowledge}
use Rattle.machine_state.specs.declared.fault.Fault.{Fault}
use Rattle.machine_state.specs.declared.link.Link.{Link}
use Rattle.machine_state.specs.declared.process.Task.{Task}
use Rattle.machine_state.specs.declared.process.Channel.{Channel}
use Rattle.machine_state.specs.declared.process.Condition.{Condition}
use Rattle.machine_state.specs.declared.process.Condition.TheVariants.{Ready, Receiving, OnLink}
use Rattle.machine_state.specs.declared.process.Exchange.{Exchange}
use Rattle.machine_state.specs.Memory.{Memory, place_of, byte_at}
use Rattle.machine_state.specs.Holding.{Holding, nothing, may_write, may_read, has_end}
use Rattle.machine_state.specs.World.{World, holding_at}
use Rattle.machine_state.specs.Site.{Outcome, sends}
use Rattle.machine_state.specs.LocalStep.{local_step}
use Rattle.machine_state.specs.Moves.{channel_at, link_index}
use Rattle.machine_state.specs.Turn.{Turn, Effect, Here, at_here, idle}
use Rattle.machine_state.specs.Exchanges.{condition_of, output_link}
use Rattle.machine_state.specs.Happens.{site_of, turn, happens, world_after}
use Rattle.machine_state.specs.Endings.{Happened, was_at_fault, it_rests, is_outside, is_prefix, is_step, local_here}
use Rattle.machine_state.specs.Endings.{Moved, TurnsInto, at_fault, has_run, has_emitted, sends_first, sends_to}
use Rattle.machine_state.specs.Writing.{of_waiting, delivered_to, Delivery, delivery_by, delivery_on}
use Rattle.machine_state.specs.Writing.{delivery, is_delivered, is_own, StepWrites, wanted_on}
use Rattle.machine_state.specs.Waiting.{IsAwaited}
use Rattle.machine_state.proofs.EveryInstruction.{OfAsked, each_step}
use Rattle.machine_state.proofs.Changes.{AsksHeld, asks_held}
use Rattle.machine_state.proofs.Writing.{steps_write_own, arrivals_write_one, acknowledgements_write_nothing}
use Rattle.machine_state.proofs.Writing.{outcome_is, of_waiting_is}
use Rattle.machine_state.proofs.Turns.{turn_happens}
use Rattle.machine_state.proofs.Waiting.{arrivals_fill_buffers}
use Rattle.world_laws.specs.Parked.{InBuffer, HasBuffer, on_channel, on_link}
use Rattle.world_laws.proofs.ParkedLaws.{buffers_are_held, arrivals_follow}
use Rattle.verifier.specs.Headline.{running_holding, WaitsFor, MayChange, is_received}
use Rattle.verifier.specs.Headline as promise

-- ---- the running process

pub runner_is : (w : World) (p : ℕ) → w.queue.running ≡ Some p → running_holding w ≡ holding_at w.roles p
runner_is w p runs = ap (λ (o : Option ℕ). elim o as (λ o. Holding) [ None ↦ nothing | Some p ↦ holding_at w.roles p ])
    runs

-- what the laws of events call its own is what it holds
pub own_is_held : (w : World) (place : ℕ) → is_own w place ≡ may_write (running_holding w) place
own_is_held w place = on w.queue.running
  where
    on : (o : Option ℕ)
        → elim o as (λ o. Bool) [ None ↦ false | Some p ↦ may_write (holding_at w.roles p) place ]
        ≡ may_write (elim o as (λ o. Holding) [ None ↦ nothing | Some p ↦ holding_at w.roles p ]) place
    on None = refl
    on (Some p) = refl

pub read_is_held : (w : World) (place : ℕ)
    → elim w.queue.running as (λ o. Bool) [ None ↦ false | Some p ↦ may_read (holding_at w.roles p) place ]
    ≡ may_read (running_holding w) place
read_is_held w place = on w.queue.running
  where
    on : (o : Option ℕ)
        → elim o as (λ o. Bool) [ None ↦ false | Some p ↦ may_read (holding_at w.roles p) place ]
        ≡ may_read (elim o as (λ o. Holding) [ None ↦ nothing | Some p ↦ holding_at w.roles p ]) place
    on None = refl
    on (Some p) = refl

-- the end of a channel on which it asks for something is its own
abbrev pub Asks : Holding → Outcome → Type 0
Asks h = OfAsked (λ e l. has_end h (record { address = e.channel; direction = In }) ≡ true)
    (λ e l. has_end h (record { address = e.channel; direction = Out }) ≡ true)
    (λ address. has_end h (record { address = address; direction = In }) ≡ true)

pub asks : (m : Contents) (w : World) (p : ℕ) (task : Task) (f : Fun) (operand : ℤ) → w.queue.running ≡ Some p
    → Asks (running_holding w) (local_step (site_of (at_here m p task 0) w) f operand (local_here task w))
asks m w p task f operand runs =
    let s = site_of (at_here m p task 0) w in
    subst (λ h. Asks h (local_step s f operand (local_here task w))) (sym (runner_is w p runs))
    (each_step s task.registers w.memory w.memory (λ r m n. m ≡ n) (λ o other. AsksHeld s o)
    (asks_held s task.registers w.memory) refl f operand)

-- ---- who waits on a channel

-- a process that waits is there
pub record IsWaiting (w : World) (p : ℕ) (c : Condition) : Type 0 where
  pub task : Task
  pub here : slice_get w.tasks p ≡ Some task
  pub waits : task.condition ≡ c

pub waiting_task : (w : World) (p : ℕ) (c : Condition) → condition_of w p ≡ c → Ready ≢ c → IsWaiting w p c
waiting_task w p c is differs = on (slice_get w.tasks p) refl is
  where
    on : (o : Option Task) → slice_get w.tasks p ≡ o
        → elim o as (λ o. Condition) [ None ↦ Ready | Some task ↦ task.condition ] ≡ c → IsWaiting w p c
    on None here is = absurd (differs is)
    on (Some task) here is = record { task = task; here = here; waits = is }

-- what is found of the process that waits on the channel of a message
pub record IsFound {A : Type 0} (w : World) (e : Exchange) (find : Condition → Option A) (x : A) : Type 0 where
  pub channel : Channel
  pub process : ℕ
  pub there : channel_at w e.channel ≡ Some channel
  pub waits : channel.waiting ≡ Some process
  pub found : find (condition_of w process) ≡ Some x

pub found_there : {A : Type 0} (w : World) (e : Exchange) (find : Condition → Option A) (x : A) (link : Option ℕ)
    → of_waiting link w e find ≡ Some x → IsFound w e find x
found_there w e find x (Some k) is = absurd (cc)
found_there {A = A} w e find x None is = on_channel_at (channel_at w e.channel) refl is
  where
    on_waiting : (c : Channel) → channel_at w e.channel ≡ Some c → (o : Option ℕ) → c.waiting ≡ o
        → elim o as (λ o. Option A) [ None ↦ None | Some other ↦ find (condition_of w other) ] ≡ Some x
        → IsFound w e find x
    on_waiting c there None waits is = absurd (cc)
    on_waiting c there (Some p) waits is =
        record { channel = c; process = p; there = there; waits = waits; found = is }

    on_channel_at : (o : Option Channel) → channel_at w e.channel ≡ o
        → elim o as (λ o. Option A) [
          | None ↦ None
          | Some channel ↦ elim channel.waiting as (λ o. Option A)
              [ None ↦ None | Some other ↦ find (condition_of w other) ]
        ] ≡ Some x → IsFound w e find x
    on_channel_at None there is = absurd (cc)
    on_channel_at (Some c) there is = on_waiting c there c.waiting refl is

-- ---- what a Step changes

-- the place is in the buffer of a process that waits for what the running process sends
record IsReceived (w : World) (place : ℕ) : Type 0 where
  process : ℕ
  wanted : Exchange
  waits : WaitsFor w Out process
  receives : condition_of w process ≡ Receiving wanted
  inside : InBuffer wanted place

abbrev Changed : ℕ → Memory → Memory → Type 0
Changed place old new = byte_at new place ≢ byte_at old place

module _ (h : Here) (w : World) (place : ℕ) where
  none_is_delivered : {d : Option Delivery} → d ≡ None → is_delivered d place ≡ true → ⊥
  none_is_delivered none is = let no : false ≡ true = subst (λ d. is_delivered d place ≡ true) none is in cc

  moved_out : (e : Exchange) (l : _) (after : World) → Moved h w (sends e l) after
      → has_end (running_holding w) (record { address = e.channel; direction = Out }) ≡ true
      → is_delivered (delivery_on w e) place ≡ true → IsReceived w place
  moved_out e l after (sends_first _ _ c inside there nobody) end is =
      absurd (none_is_delivered
      (of_waiting_is (output_link e.channel) w e (delivered_to e) c None inside there nobody) is)
  moved_out e l after (sends_to _ _ c other wanted inside there waits wants same) end is =
      let meets = of_waiting_is (output_link e.channel) w e (delivered_to e) c (Some other) inside there waits
      ∙ ap (delivered_to e) wants in
      let first = place_of wanted.address in
      let within = and_parts (nat_le first place) (nat_lt place (first + e.length))
      (subst (λ d. is_delivered d place ≡ true) meets is) in
      let low = leb-true first place within.0 in
      let high = ltb-true place (first + e.length) within.1 in
      let lengths = eqb-true wanted.length e.length same in
      record {
        process = other;
        wanted = wanted;
        waits = record { address = e.channel; channel = c; there = there; waits = waits; end = end };
        receives = wants;
        inside = (low, omega (arith, high, lengths));
      }

  sent_out : (e : Exchange) (l : _) (t : Turn) → TurnsInto h w (sends e l) t
      → has_end (running_holding w) (record { address = e.channel; direction = Out }) ≡ true
      → Changed place w.memory t.world.memory → is_delivered (delivery_on w e) place ≡ true → IsReceived w place
  sent_out e l t (at_fault refused) end changed is = absurd (changed refl)
  sent_out e l t (has_run moved) end changed is = moved_out e l _ moved end is
  sent_out e l t (has_emitted _ _ k on same) end changed is =
      absurd (none_is_delivered (ap (λ (k : Option ℕ). of_waiting k w e (delivered_to e)) on) is)

  turned_out : (o : Outcome) (t : Turn) → TurnsInto h w o t → Asks (running_holding w) o
      → Changed place w.memory t.world.memory → is_delivered (delivery_by w o) place ≡ true → IsReceived w place
  turned_out (sends e l) t ends asks changed is = sent_out e l t ends asks changed is
  turned_out _ t ends asks changed is = absurd (cc)

module _ (m : Contents) (w : World) (slice : Bool) (pick place : ℕ) where
  abbrev delivered : Option Outcome → Option Delivery
  delivered o = elim o as (λ o. Option Delivery) [ None ↦ None | Some o ↦ delivery_by w o ]

  happened_out : (t : Turn) → Happened m w (Step slice pick) t → Changed place w.memory t.world.memory
      → is_delivered (delivery m w) place ≡ true → IsReceived w place
  happened_out t (was_at_fault f is) changed buffered = absurd (changed refl)
  happened_out t (it_rests rests) changed buffered = absurd (changed refl)
  happened_out t (is_outside p task why runs here) changed buffered = absurd (changed refl)
  happened_out t (is_prefix p task byte operand runs here at none it next) changed buffered = absurd (changed refl)
  happened_out t (is_step p task byte f runs here at is ends) changed buffered =
      turned_out (at_here m p task pick) w place _ t ends
      (asks m w p task f (with_nibble task.registers.operand (nibble byte)) runs) changed
      (subst (λ d. is_delivered d place ≡ true) (ap delivered (outcome_is m w p task byte (Some f) runs here at is))
      buffered)

-- a byte that is neither the running process's nor delivered stays
untouched : (mine : ℕ → Bool) (d : Option Delivery) (old new : Memory) (answer : Result Effect Fault) (place : ℕ)
    → StepWrites mine d old new answer → mine place ≡ false → is_delivered d place ≡ false
    → byte_at new place ≡ byte_at old place
untouched mine d old new (Err f) place same not_mine outside = ap (λ (m : Memory). byte_at m place) same
untouched mine d old new (Ok idle) place same not_mine outside = ap (λ (m : Memory). byte_at m place) same
untouched mine d old new (Ok _) place well not_mine outside = well.others place not_mine outside

-- ---- what any event changes

module _ (m : Contents) (es : List Event) (keeps : Keeps m) where
  abbrev w : World
  w = world_after m es

  pub buffer : (p : ℕ) (c : Condition) → (x : IsWaiting w p c)
      → HasBuffer (holding_at w.roles p) x.task.registers.workspace c
  buffer p c x = subst (HasBuffer (holding_at w.roles p) x.task.registers.workspace) x.waits
      (buffers_are_held m es p x.task keeps x.here)

  step_changes : (slice : Bool) (pick place : ℕ)
      → Changed place w.memory (turn m w (Step slice pick)).world.memory → MayChange w place (Step slice pick)
  step_changes slice pick place changed = on (is_own w place) refl (is_delivered (delivery m w) place) refl
    where
      on : (mine : Bool) → is_own w place ≡ mine → (buffered : Bool) → is_delivered (delivery m w) place ≡ buffered
          → MayChange w place (Step slice pick)
      on true is buffered also = promise.is_own (sym (own_is_held w place) ∙ is)
      on false is false also = absurd (changed (untouched (is_own w) (delivery m w) w.memory _ _ place
          (steps_write_own m w slice pick) is also))
      on false is true also =
          let x = happened_out m w slice pick place _ (turn_happens m w (Step slice pick)) changed also in
          let waits = waiting_task w x.process (Receiving x.wanted) x.receives (λ e. cc) in
          is_received x.process x.wanted x.waits x.receives x.inside
          ((buffer x.process (Receiving x.wanted) waits).writable x.wanted place (on_channel refl) x.inside)

  arrival_is_own : (link : Link) (byte place : ℕ) → IsAwaited w (link_index link) place
      → MayChange w place (Arrive link byte)
  arrival_is_own link byte place x =
      let e = x.waits.exchange in
      let done = x.waits.done in
      let is = arrivals_follow m es (link_index link) place keeps x in
      let waits : IsWaiting w x.process (OnLink e done) =
      record { task = x.waits.task; here = x.waits.here; waits = x.waits.waits } in
      let more = x.waits.more in
      promise.arrives x.link x.process done e x.here x.waiting
      (ap (λ (o : Option Task). elim o as (λ o. Condition) [ None ↦ Ready | Some task ↦ task.condition ]) x.waits.here
      ∙ x.waits.waits) is
      ((buffer x.process (OnLink e done) waits).writable e place (on_link (link_index link) done refl x.waits.on)
      (omega (arith, is), omega (arith, is, more)))

  arrival_changes : (link : Link) (byte place : ℕ)
      → Changed place w.memory (turn m w (Arrive link byte)).world.memory → MayChange w place (Arrive link byte)
  arrival_changes link byte place changed = on (wanted_on w link) refl
    where
      on : (wanted : Option ℕ) → wanted_on w link ≡ wanted → MayChange w place (Arrive link byte)
      on None is = absurd (changed ((arrivals_write_one m w link byte).others place
          (λ (also : wanted_on w link ≡ Some place). let no : None ≡ Some place = sym is ∙ also in cc)))
      on (Some x) is = elim (cases_eq x place) [
        | inl same ↦ arrival_is_own link byte place (arrivals_fill_buffers m es link place (is ∙ ap Some same))
        | inr other ↦ absurd (changed ((arrivals_write_one m w link byte).others place
            (λ (also : wanted_on w link ≡ Some place). other (same_some (wanted_on w link) x place is also))))
      ]

  -- a byte that an event changes is one that it may change
  pub changes_its_own : (e : Event) (place : ℕ) → Changed place w.memory (happens m w e).memory → MayChange w place e
  changes_its_own (Step slice pick) place changed = step_changes slice pick place changed
  changes_its_own (Arrive link byte) place changed = arrival_changes link byte place changed
  changes_its_own (Acknowledge link) place changed =
      absurd (changed (ap (λ (m : Memory). byte_at m place) (acknowledgements_write_nothing m w link)))
