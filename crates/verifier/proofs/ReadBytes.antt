-- Which bytes an event reads: in two worlds that agree there it does the same.
use Rattle.std.proofs.Common.{◌≡◌, ℕ, ◌+◌, ◌-◌, ◌<◌, Bool, true, false, if◌then◌else◌, inl, inr, length, ℤ, List}
use Rattle.std.proofs.Common.{Option, Some, None, Result, Ok, Err, refl, sym, ap, ◌∙◌, subst, arith}
use Rattle.std.specs.Prelude.{slice_get, nat_le, nat_lt, ◌%◌, ◌^◌, ◌==◌}
use Rattle.std.proofs.lemmas.Bool.{and_parts, or_cases, or_parts, or_left, leb-true, ltb-true, cases_lt, eqb-true}
use Rattle.std.proofs.lemmas.Bool.{eq-eqb}
use Rattle.std.proofs.lemmas.List.{get_or_past}
use Rattle.prefix_decoder.specs.declared.function.Fun.{Fun}
use Rattle.prefix_decoder.specs.Functions.{fun_of, function_code, nibble}
use Rattle.prefix_decoder.specs.Operand.{with_nibble}
use Rattle.module_format.specs.declared.rows.Direction.TheVariants.{In}
use Rattle.module_format.specs.Contents.{Contents}
use Rattle.module_format.specs.Keeping.{Keeps}
use Rattle.machine_state.specs.declared.event.Event.{Event}
use Rattle.machine_state.specs.declared.event.Event.TheVariants.{Step, Arrive, Acknowledge}
use Rattle.machine_state.specs.declared.fault.Fault.{Fault}
use Rattle.machine_state.specs.declared.link.InputLink.{InputLink}
use Rattle.machine_state.specs.declared.link.OutputLink.{OutputLink}
use Rattle.machine_state.specs.declared.process.Task.{Task}
use Rattle.machine_state.specs.declared.process.Condition.{Condition}
use Rattle.machine_state.specs.declared.process.Condition.TheVariants.{Sending, Receiving, OnLink}
use Rattle.machine_state.specs.declared.process.Exchange.{Exchange}
use Rattle.machine_state.specs.Memory.{Memory, place_of, byte_at, with_byte}
use Rattle.machine_state.specs.Holding.{Holding, may_write, may_read}
use Rattle.machine_state.specs.World.{World, holding_at}
use Rattle.machine_state.specs.Site.{Outcome, receives}
use Rattle.machine_state.specs.LocalStep.{local_step}
use Rattle.machine_state.specs.Moves.{wake, with_condition, dispatch, rouse, fill, fill_condition, with_input}
use Rattle.machine_state.specs.Moves.{link_index}
use Rattle.machine_state.specs.Moves.{with_output}
use Rattle.machine_state.specs.Turn.{Turn, Effect, at_here, answered, idle, taken, kept, busy, acknowledged, ignored}
use Rattle.machine_state.specs.Exchanges.{condition_of, output_link, input_link}
use Rattle.machine_state.specs.Happens.{site_of, turn, event_turn, arrive_at, arrive_turn, acknowledge_turn}
use Rattle.machine_state.specs.Happens.{world_after}
use Rattle.machine_state.specs.Writing.{outcome_of, of_waiting, delivered_to, Delivery, delivery_by, delivery}
use Rattle.machine_state.specs.Writing.{is_delivered, is_own, WritesWell, StepWrites}
use Rattle.machine_state.specs.Seeing.{sent_by, sent_on, supply_by, supply, is_supplied, is_seen, Agree, SameTurn}
use Rattle.machine_state.proofs.EveryInstruction.{each_step}
use Rattle.machine_state.proofs.Agreeing.{Alike, both_send, Covers, alike, byte_agrees}
use Rattle.machine_state.proofs.MovesLeaveAlone.{on_task_beside, wake_beside, rouse_beside}
use Rattle.machine_state.proofs.Writing.{steps_write_own}
use Rattle.machine_state.proofs.Seeing.{steps_see_what_they_read}
use Rattle.world_laws.specs.Parked.{InBuffer}
use Rattle.verifier.specs.Headline.{running_holding, WaitsFor, MayRead, is_readable, is_sent, DoTheSame}
use Rattle.verifier.proofs.OwnBytes.{Asks, asks, found_there, waiting_task, read_is_held, own_is_held}
use Rattle.verifier.proofs.OwnBytes.{buffer, runner_is}
use Rattle.small_laws.proofs.Options.{same_some}

-- ---- the next instruction in two memories

-- With either memory the running process is about to do the same instruction, or none.
data IsDoing (m : Contents) (w : World) (n : Memory) : Option Outcome → Option Outcome → Type 0 where
  nothing_is_done : IsDoing m w n None None
  it_does : (p : ℕ) (task : Task) (f : Fun) (operand : ℤ) → w.queue.running ≡ Some p
      → IsDoing m w n
      (Some (local_step (site_of (at_here m p task 0) w) f operand
      (record { registers = task.registers; memory = w.memory })))
      (Some (local_step (site_of (at_here m p task 0) w) f operand
      (record { registers = task.registers; memory = n })))

module _ (m : Contents) (w : World) (n : Memory) where
  abbrev by_function : Memory → ℕ → Task → ℕ → Option Fun → Option Outcome
  by_function memory p task byte f = elim f as (λ f. Option Outcome) [
    | None ↦ None
    | Some f ↦ Some (local_step (site_of (at_here m p task 0) w) f
        (with_nibble task.registers.operand (nibble byte)) (record { registers = task.registers; memory = memory }))
  ]

  abbrev by_byte : Memory → ℕ → Task → Option ℕ → Option Outcome
  by_byte memory p task byte = elim byte as (λ b. Option Outcome)
      [ None ↦ None | Some byte ↦ by_function memory p task byte (fun_of (function_code byte)) ]

  abbrev by_task : Memory → ℕ → Option Task → Option Outcome
  by_task memory p task = elim task as (λ t. Option Outcome)
      [ None ↦ None | Some task ↦ by_byte memory p task (slice_get m.code task.registers.at) ]

  does_function : (p : ℕ) (task : Task) (byte : ℕ) → w.queue.running ≡ Some p → (f : Option Fun)
      → IsDoing m w n (by_function w.memory p task byte f) (by_function n p task byte f)
  does_function p task byte runs None = nothing_is_done
  does_function p task byte runs (Some f) = it_does p task f (with_nibble task.registers.operand (nibble byte)) runs

  does_byte : (p : ℕ) (task : Task) → w.queue.running ≡ Some p → (byte : Option ℕ)
      → IsDoing m w n (by_byte w.memory p task byte) (by_byte n p task byte)
  does_byte p task runs None = nothing_is_done
  does_byte p task runs (Some byte) = does_function p task byte runs (fun_of (function_code byte))

  does_task : (p : ℕ) → w.queue.running ≡ Some p → (task : Option Task)
      → IsDoing m w n (by_task w.memory p task) (by_task n p task)
  does_task p runs None = nothing_is_done
  does_task p runs (Some task) = does_byte p task runs (slice_get m.code task.registers.at)

  does_runner : (runner : Option ℕ) → w.queue.running ≡ runner → IsDoing m w n
      (elim runner as (λ p. Option Outcome) [ None ↦ None | Some p ↦ by_task w.memory p (slice_get w.tasks p) ])
      (elim runner as (λ p. Option Outcome) [ None ↦ None | Some p ↦ by_task n p (slice_get w.tasks p) ])
  does_runner None runs = nothing_is_done
  does_runner (Some p) runs = does_task p runs (slice_get w.tasks p)

  does : IsDoing m w n (outcome_of m w) (outcome_of m (record w { memory = n }))
  does = does_runner w.queue.running refl

-- ---- what a sender hands to the running process

-- the place is in the message of a process that waits to send what the running process receives
record IsHanded (w : World) (place : ℕ) : Type 0 where
  process : ℕ
  given : Exchange
  waits : WaitsFor w In process
  sends : condition_of w process ≡ Sending given
  inside : InBuffer given place

is_sender : (c : Condition) (e : Exchange) → sent_by c ≡ Some e → c ≡ Sending e
is_sender (Sending sent) e is = ap Sending (same_some (Some sent) sent e refl is)
is_sender _ e is = absurd (cc)

module _ (w : World) (place : ℕ) where
  handed_by : (o : Outcome) → Asks (running_holding w) o → is_supplied (supply_by w o) place ≡ true → IsHanded w place
  handed_by (receives e l) end is = on (sent_on w e) refl is
    where
      on : (s : Option Exchange) → sent_on w e ≡ s → is_supplied s place ≡ true → IsHanded w place
      on None handed is = absurd (cc)
      on (Some given) handed is =
          let x = found_there w e sent_by given (input_link e.channel) handed in
          let first = place_of given.address in
          let within = and_parts (nat_le first place) (nat_lt place (first + given.length)) is in
          record {
            process = x.process;
            given = given;
            waits = record {
              address = e.channel;
              channel = x.channel;
              there = x.there;
              waits = x.waits;
              end = end;
            };
            sends = is_sender (condition_of w x.process) given x.found;
            inside = (leb-true first place within.0, ltb-true place (first + given.length) within.1);
          }
  handed_by _ end is = absurd (cc)

  handed : (m : Contents) (n : Memory) (o o' : Option Outcome) → IsDoing m w n o o'
      → is_supplied (elim o as (λ o. Option Exchange) [ None ↦ None | Some o ↦ supply_by w o ]) place ≡ true
      → IsHanded w place
  handed m n o o' nothing_is_done is = absurd (cc)
  handed m n o o' (it_does p task f operand runs) is = handed_by _ (asks m w p task f operand runs) is

-- ---- what the running process delivers

record SameDelivery (seen : ℕ → Bool) (d d' : Option Delivery) : Type 0 where
  same : d' ≡ d
  sent : (x : Delivery) → d ≡ Some x → Covers seen (place_of x.sent.address) x.sent.length

is_receiver : (c : Condition) (e : Exchange) (x : Delivery) → delivered_to e c ≡ Some x → x.sent ≡ e
is_receiver (Receiving wanted) e x is =
    ap (λ (d : Delivery). d.sent) (sym (same_some (Some (record { sent = e; wanted = wanted })) _ x refl is))
is_receiver _ e x is = absurd (cc)

-- who waits does not depend on memory
waiting_is_blind : {A : Type 0} (w : World) (n : Memory) (e : Exchange) (find : Condition → Option A) (link : Option ℕ)
    → of_waiting link (record w { memory = n }) e find ≡ of_waiting link w e find
waiting_is_blind w n e find (Some k) = refl
waiting_is_blind w n e find None = refl

nothing_sent : (seen : ℕ → Bool) → SameDelivery seen None None
nothing_sent seen = record { same = refl; sent = λ x is. absurd (cc) }

module _ (seen : ℕ → Bool) (w : World) (n : Memory) where
  sends_alike : (o o' : Outcome) → Alike seen o o'
      → SameDelivery seen (delivery_by w o) (delivery_by (record w { memory = n }) o')
  sends_alike o o' (both_send e r m n' agree covers) = record {
    same = waiting_is_blind w n e (delivered_to e) (output_link e.channel);
    sent = λ x is.
        let found = found_there w e (delivered_to e) x (output_link e.channel) is in
        subst (λ (s : Exchange). Covers seen (place_of s.address) s.length)
        (sym (is_receiver (condition_of w found.process) e x found.found)) covers;
  }
  sends_alike o o' _ = nothing_sent seen

  delivers_alike : (m : Contents) → ((p : ℕ) → w.queue.running ≡ Some p → (q : ℕ)
      → may_read (holding_at w.roles p) q ≡ true → seen q ≡ true) → Agree seen w.memory n
      → (o o' : Option Outcome) → IsDoing m w n o o'
      → SameDelivery seen (elim o as (λ o. Option Delivery) [ None ↦ None | Some o ↦ delivery_by w o ])
      (elim o' as (λ o. Option Delivery) [ None ↦ None | Some o ↦ delivery_by (record w { memory = n }) o ])
  delivers_alike m reads agree o o' nothing_is_done = nothing_sent seen
  delivers_alike m reads agree o o' (it_does p task f operand runs) =
      let s = site_of (at_here m p task 0) w in
      sends_alike _ _ (each_step s task.registers w.memory n (λ r m n. Agree seen m n) (Alike seen)
      (alike seen s task.registers w.memory n (reads p runs)) agree f operand)

-- ---- bytes that are alike stay so

module _ (mine : ℕ → Bool) (d : Option Delivery) (old new other after : Memory) (place : ℕ)
    (alike : byte_at other place ≡ byte_at old place) (size : length other ≡ length old)
    (not_mine : mine place ≡ false)
    (sent : (x : Delivery) → d ≡ Some x → (i : ℕ) → i < x.sent.length
    → byte_at other (place_of x.sent.address + i) ≡ byte_at old (place_of x.sent.address + i)) where
  stay_outside : WritesWell mine d old new → WritesWell mine d other after → is_delivered d place ≡ false
      → byte_at after place ≡ byte_at new place
  stay_outside a b outside = b.others place not_mine outside ∙ alike ∙ sym (a.others place not_mine outside)

  become_alike : WritesWell mine d old new → WritesWell mine d other after → (x : Delivery) → d ≡ Some x → (i : ℕ)
      → i < x.sent.length → place ≡ place_of x.wanted.address + i → byte_at after place ≡ byte_at new place
  become_alike a b x is i inside here = elim (cases_lt place (length old)) [
    | inl there ↦
        let low : place_of x.wanted.address + i < length old = omega (arith, here, there) in
        let low' : place_of x.wanted.address + i < length other = omega (arith, size, low) in
        ap (byte_at after) here ∙ b.become x is i inside low' ∙ sent x is i inside ∙ sym (a.become x is i inside low)
        ∙ ap (byte_at new) (sym here)
    | inr past ↦ get_or_past after place None (omega (arith, b.size, size, past))
        ∙ sym (get_or_past new place None (omega (arith, a.size, past)))
  ]

  wells_alike : WritesWell mine d old new → WritesWell mine d other after → byte_at after place ≡ byte_at new place
  wells_alike a b = on d refl
    where
      on : (given : Option Delivery) → d ≡ given → byte_at after place ≡ byte_at new place
      on None is = stay_outside a b (ap (λ (d : Option Delivery). is_delivered d place) is)
      on (Some x) is = on_place (is_delivered (Some x) place) refl
        where
          on_place : (b' : Bool) → is_delivered (Some x) place ≡ b' → byte_at after place ≡ byte_at new place
          on_place false outside =
              stay_outside a b (ap (λ (d : Option Delivery). is_delivered d place) is ∙ outside)
          on_place true within =
              let first = place_of x.wanted.address in
              let parts = and_parts (nat_le first place) (nat_lt place (first + x.sent.length)) within in
              let low = leb-true first place parts.0 in
              let high = ltb-true place (first + x.sent.length) parts.1 in
              become_alike a b x is (place - place_of x.wanted.address) (omega (arith, low, high)) (omega (arith, low))

  stay_alike : new ≡ old → after ≡ other → byte_at after place ≡ byte_at new place
  stay_alike a b = ap (λ (m : Memory). byte_at m place) b ∙ alike ∙ sym (ap (λ (m : Memory). byte_at m place) a)

  steps_alike : (answer : Result Effect Fault) → StepWrites mine d old new answer
      → StepWrites mine d other after answer
      → byte_at after place ≡ byte_at new place
  steps_alike (Err f) a b = stay_alike a b
  steps_alike (Ok idle) a b = stay_alike a b
  steps_alike (Ok _) a b = wells_alike a b

-- ---- what comes on links

-- a move that does not look at memory
abbrev IsBlind : (World → World) → Type 0
IsBlind move = (w : World) (n : Memory) → move (record w { memory = n }) ≡ record (move w) { memory = n }

wake_blind : (p : ℕ) → IsBlind (wake p)
wake_blind p w n =
    sym (wake_beside (λ w. record w { memory = n }) (λ w. refl) (λ w tasks. refl) (λ p w. refl) p w)

condition_blind : (p : ℕ) (c : Condition) → IsBlind (with_condition p c)
condition_blind p c w n =
    sym (on_task_beside (λ w. record w { memory = n }) (λ w. refl) (λ w tasks. refl) (λ p w. refl) p
    (λ task. record task { condition = c }) w)

rouse_blind : (o : Option ℕ) → IsBlind (rouse o)
rouse_blind o w n =
    sym (rouse_beside (λ w. record w { memory = n }) (λ w. refl) (λ w tasks. refl) (λ p w. refl) o w)

module _ (m : Contents) (w : World) (other : Memory) (size : length other ≡ length w.memory) where
  abbrev w' : World
  w' = record w { memory = other }

  abbrev Same : Turn → Turn → Type 0
  Same t u = DoTheSame w.memory other t u

  nothing_happens : (answer : Result Effect Fault)
      → Same (record { world = w; answer = answer }) (record { world = w'; answer = answer })
  nothing_happens answer = record { answer = refl; world = refl; bytes = λ place alike. alike }

  -- a blind move from worlds whose bytes are alike where they were
  moves : (e : Effect) (move : World → World) → IsBlind move → (v : World) (n : Memory)
      → ((place : ℕ) → byte_at other place ≡ byte_at w.memory place → byte_at n place ≡ byte_at v.memory place)
      → Same (answered e (dispatch 0 (move v))) (answered e (dispatch 0 (move (record v { memory = n }))))
  unfolding dispatch
  moves e move blind v n bytes = rw (blind v n) (record {
    answer = refl;
    world = refl;
    bytes = λ place alike. bytes place alike ∙ sym (ap (λ (x : World). byte_at x.memory place) (blind v v.memory));
  })

  -- the byte that arrives is alike in both
  filled_alike : (at : ℕ) (byte : Option ℕ) (place : ℕ) → byte_at other place ≡ byte_at w.memory place
      → byte_at (with_byte other at byte) place ≡ byte_at (with_byte w.memory at byte) place
  filled_alike at byte place alike =
      (byte_agrees (λ q. q == place) w.memory other at byte (record {
        size = size;
        same = λ q is. let here = eqb-true q place is in rw here alike;
      })).same place (eq-eqb place place refl)

  fills : (p k byte : ℕ) (link : InputLink)
      → Same (answered taken (dispatch 0 (fill p k byte link w))) (answered taken (dispatch 0 (fill p k byte link w')))
  fills p k byte link = on (slice_get w.tasks p)
    where
      stays : Same (answered taken (dispatch 0 w)) (answered taken (dispatch 0 w'))
      stays = moves taken (λ w. w) (λ w n. refl) w other (λ place alike. alike)

      on_last : (e : Exchange) (done : ℕ) (b : Bool) → let at = place_of ((e.address + done) % 2 ^ 32) in
          Same (answered taken (dispatch 0 (if b
          then wake p (with_input k (record link { waiting = None })
          (record w { memory = with_byte w.memory at (Some byte) }))
          else with_condition p (OnLink e (done + 1)) (record w { memory = with_byte w.memory at (Some byte) }))))
          (answered taken (dispatch 0 (if b
          then wake p (with_input k (record link { waiting = None })
          (record w { memory = with_byte other at (Some byte) }))
          else with_condition p (OnLink e (done + 1)) (record w { memory = with_byte other at (Some byte) }))))
      on_last e done true =
          let at = place_of ((e.address + done) % 2 ^ 32) in
          moves taken (λ v. wake p (with_input k (record link { waiting = None }) v))
          (λ v n. wake_blind p (with_input k (record link { waiting = None }) v) n)
          (record w { memory = with_byte w.memory at (Some byte) }) (with_byte other at (Some byte))
          (filled_alike at (Some byte))
      on_last e done false =
          let at = place_of ((e.address + done) % 2 ^ 32) in
          moves taken (with_condition p (OnLink e (done + 1))) (condition_blind p (OnLink e (done + 1)))
          (record w { memory = with_byte w.memory at (Some byte) }) (with_byte other at (Some byte))
          (filled_alike at (Some byte))

      on_condition : (c : Condition) → Same (answered taken (dispatch 0 (fill_condition p k byte link c w)))
          (answered taken (dispatch 0 (fill_condition p k byte link c w')))
      on_condition (OnLink e done) = on_last e done (done + 1 == e.length)
      on_condition _ = stays

      on : (o : Option Task) → Same
          (answered taken (dispatch 0 (elim o as (λ o. World)
          [ None ↦ w | Some task ↦ fill_condition p k byte link task.condition w ])))
          (answered taken (dispatch 0 (elim o as (λ o. World)
          [ None ↦ w' | Some task ↦ fill_condition p k byte link task.condition w' ])))
      on None = stays
      on (Some task) = on_condition task.condition

  arrives_at : (k byte : ℕ) (link : InputLink) → Same (arrive_at k byte link w) (arrive_at k byte link w')
  arrives_at k byte link = on_waiting link.waiting
    where
      keeps : Turn × Turn
      keeps = (
        answered kept (dispatch 0 (rouse link.enabled (with_input k (record link { kept = Some byte }) w))),
        answered kept (dispatch 0 (rouse link.enabled (with_input k (record link { kept = Some byte }) w'))),
      )

      on_kept : (o : Option ℕ) → Same (elim o as (λ o. Turn) [ Some before ↦ answered busy w | None ↦ keeps.0 ])
          (elim o as (λ o. Turn) [ Some before ↦ answered busy w' | None ↦ keeps.1 ])
      on_kept None = moves kept (rouse link.enabled) (rouse_blind link.enabled)
          (with_input k (record link { kept = Some byte }) w) other (λ place alike. alike)
      on_kept (Some before) = nothing_happens (Ok busy)

      on_waiting : (o : Option ℕ) → Same
          (elim o as (λ o. Turn) [
            | Some p ↦ answered taken (dispatch 0 (fill p k byte link w))
            | None ↦ elim link.kept as (λ o. Turn) [ Some before ↦ answered busy w | None ↦ keeps.0 ]
          ])
          (elim o as (λ o. Turn) [
            | Some p ↦ answered taken (dispatch 0 (fill p k byte link w'))
            | None ↦ elim link.kept as (λ o. Turn) [ Some before ↦ answered busy w' | None ↦ keeps.1 ]
          ])
      on_waiting None = on_kept link.kept
      on_waiting (Some p) = fills p k byte link

  arrives : (k byte : ℕ) → Same (arrive_turn k byte w) (arrive_turn k byte w')
  arrives k byte = on (slice_get w.links.inputs k)
    where
      on : (o : Option InputLink) → Same
          (elim o as (λ o. Turn) [ None ↦ answered ignored w | Some link ↦ arrive_at k byte link w ])
          (elim o as (λ o. Turn) [ None ↦ answered ignored w' | Some link ↦ arrive_at k byte link w' ])
      on None = nothing_happens (Ok ignored)
      on (Some link) = arrives_at k byte link

  acknowledges : (k : ℕ) → Same (acknowledge_turn k w) (acknowledge_turn k w')
  acknowledges k = on (slice_get w.links.outputs k)
    where
      on_waiting : (o : Option ℕ) → Same
          (elim o as (λ o. Turn) [
            | None ↦ answered ignored w
            | Some p ↦ answered acknowledged (dispatch 0 (wake p (with_output k (record { waiting = None }) w)))
          ])
          (elim o as (λ o. Turn) [
            | None ↦ answered ignored w'
            | Some p ↦ answered acknowledged (dispatch 0 (wake p (with_output k (record { waiting = None }) w')))
          ])
      on_waiting None = nothing_happens (Ok ignored)
      on_waiting (Some p) = moves acknowledged (wake p) (wake_blind p) (with_output k (record { waiting = None }) w)
          other (λ place alike. alike)

      on : (o : Option OutputLink) → Same
          (elim o as (λ o. Turn) [
            | None ↦ answered ignored w
            | Some link ↦ elim link.waiting as (λ o. Turn) [
              | None ↦ answered ignored w
              | Some p ↦ answered acknowledged (dispatch 0 (wake p (with_output k (record { waiting = None }) w)))
            ]
          ])
          (elim o as (λ o. Turn) [
            | None ↦ answered ignored w'
            | Some link ↦ elim link.waiting as (λ o. Turn) [
              | None ↦ answered ignored w'
              | Some p ↦ answered acknowledged (dispatch 0 (wake p (with_output k (record { waiting = None }) w')))
            ]
          ])
      on None = nothing_happens (Ok ignored)
      on (Some link) = on_waiting link.waiting

  -- a turn, and that of a world that is at fault
  unless_at_fault : (e : Event) → Same (event_turn m e w) (event_turn m e w') → Same (turn m w e) (turn m w' e)
  unfolding turn
  unless_at_fault e same = on w.fault
    where
      on : (f : Option Fault) → Same
          (elim f as (λ f. Turn) [ None ↦ event_turn m e w | Some f ↦ record { world = w; answer = Err f } ])
          (elim f as (λ f. Turn) [ None ↦ event_turn m e w' | Some f ↦ record { world = w'; answer = Err f } ])
      on None = same
      on (Some f) = nothing_happens (Err f)

-- ---- every event

module _ (m : Contents) (es : List Event) (keeps : Keeps m) (other : Memory)
    (size : length other ≡ length (world_after m es).memory) where
  abbrev v : World
  v = world_after m es

  abbrev v' : World
  v' = record v { memory = other }

  readable : {slice : Bool} {pick : ℕ} (place : ℕ) → IsHanded v place → MayRead v place (Step slice pick)
  readable place x =
      let waits = waiting_task v x.process (Sending x.given) x.sends (λ e. cc) in
      is_sent x.process x.given x.waits x.sends x.inside
      ((buffer m es keeps x.process (Sending x.given) waits).readable x.given place refl x.inside)

  module _ (slice : Bool) (pick : ℕ)
      (same : (place : ℕ) → MayRead v place (Step slice pick) → byte_at other place ≡ byte_at v.memory place) where
    agree : Agree (is_seen m v) v.memory other
    agree = record {
      size = size;
      same = λ place seen. elim (or_cases _ (is_supplied (supply m v) place) seen) [
        | inl mine ↦ same place (is_readable (sym (read_is_held v place) ∙ mine))
        | inr given ↦ same place (readable place (handed v place m other _ _ (does m v other) given))
      ];
    }

    own_is_seen : (p : ℕ) → v.queue.running ≡ Some p → (q : ℕ) → may_read (holding_at v.roles p) q ≡ true
        → is_seen m v q ≡ true
    own_is_seen p runs q mine = or_left _ _ (read_is_held v q
        ∙ ap (λ (h : Holding). may_read h q) (runner_is v p runs) ∙ mine)

    delivers : SameDelivery (is_seen m v) (delivery m v) (delivery m v')
    delivers = delivers_alike (is_seen m v) v other m own_is_seen agree _ _ (does m v other)

    sees : SameTurn (is_seen m v) (turn m v (Step slice pick)) (turn m v' (Step slice pick))
    sees = steps_see_what_they_read m v other slice pick agree

    -- what it does with the other memory, with the same delivery and the same answer
    writes_alike : StepWrites (is_own v) (delivery m v) other (turn m v' (Step slice pick)).world.memory
        (turn m v (Step slice pick)).answer
    writes_alike = subst (λ (answer : Result Effect Fault). StepWrites (is_own v) (delivery m v) other
        (turn m v' (Step slice pick)).world.memory answer) sees.answer
        (subst (λ (d : Option Delivery). StepWrites (is_own v) d other (turn m v' (Step slice pick)).world.memory
        (turn m v' (Step slice pick)).answer) delivers.same (steps_write_own m v' slice pick))

    bytes_alike : (place : ℕ) → byte_at other place ≡ byte_at v.memory place
        → byte_at (turn m v' (Step slice pick)).world.memory place
        ≡ byte_at (turn m v (Step slice pick)).world.memory place
    bytes_alike place alike = on (is_seen m v place) refl
      where
        on : (seen : Bool) → is_seen m v place ≡ seen → byte_at (turn m v' (Step slice pick)).world.memory place
            ≡ byte_at (turn m v (Step slice pick)).world.memory place
        on true seen = sees.agree.same place seen
        on false unseen =
            let unread : may_read (running_holding v) place ≡ false =
            sym (read_is_held v place) ∙ (or_parts _ (is_supplied (supply m v) place) unseen).0 in
            steps_alike (is_own v) (delivery m v) v.memory (turn m v (Step slice pick)).world.memory other
            (turn m v' (Step slice pick)).world.memory place alike size
            (own_is_held v place ∙ (or_parts (may_write (running_holding v) place) _ unread).0)
            (λ x is i inside. agree.same _ (delivers.sent x is i inside)) (turn m v (Step slice pick)).answer
            (steps_write_own m v slice pick) writes_alike

    step_reads_its_own : DoTheSame v.memory other (turn m v (Step slice pick)) (turn m v' (Step slice pick))
    step_reads_its_own = record { answer = sees.answer; world = sees.world; bytes = bytes_alike }

  -- with other bytes where an event may not read it does the same
  pub reads_its_own : (e : Event)
      → ((place : ℕ) → MayRead v place e → byte_at other place ≡ byte_at v.memory place)
      → DoTheSame v.memory other (turn m v e) (turn m v' e)
  reads_its_own (Step slice pick) same = step_reads_its_own slice pick same
  reads_its_own (Arrive link byte) same = unless_at_fault m v other size (Arrive link byte)
      (arrives m v other size (link_index link) byte)
  reads_its_own (Acknowledge link) same = unless_at_fault m v other size (Acknowledge link)
      (acknowledges m v other size (link_index link))
