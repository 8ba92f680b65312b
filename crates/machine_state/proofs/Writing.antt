-- Which bytes an event changes.
use Rattle.std.proofs.Common.{◌≡◌, ℕ, zero, suc, ◌+◌, ◌%◌, ◌^◌, ◌<◌, ◌≤◌, ◌&&◌, Bool, true, false, if◌then◌else◌, ◌⊎◌}
use Rattle.std.proofs.Common.{inl, inr, ℤ, pos, negsuc, List, [], ◌∷◌, ◌++◌, length, Option, Some, None, is_some}
use Rattle.std.proofs.Common.{Result, Ok, Err, refl, sym, ap, ◌∙◌, subst, slice_get, arith, eqb-true}
use Rattle.std.proofs.lemmas.Bool.{cases_lt, cases_eq, le-leb, lt-ltb, and_parts, and_from}
use Rattle.std.proofs.lemmas.List.{get_or_past}
use Rattle.std.specs.Prelude.{⊤, ◌==◌}
use Rattle.std.specs.List.{list_all}
use Rattle.prefix_decoder.specs.Functions.{fun_of, function_code, nibble}
use Rattle.prefix_decoder.specs.Operand.{with_nibble}
use Rattle.module_format.specs.Contents.{Contents}
use Rattle.machine_state.specs.declared.event.Event.{Event}
use Rattle.machine_state.specs.declared.event.Event.TheVariants.{Step, Arrive, Acknowledge}
use Rattle.machine_state.specs.declared.fault.Fault.{Fault}
use Rattle.machine_state.specs.declared.link.Link.{Link}
use Rattle.machine_state.specs.declared.link.InputLink.{InputLink}
use Rattle.machine_state.specs.declared.process.Registers.{Registers}
use Rattle.machine_state.specs.declared.process.Task.{Task}
use Rattle.machine_state.specs.declared.process.Channel.{Channel}
use Rattle.machine_state.specs.declared.process.Condition.{Condition}
use Rattle.machine_state.specs.declared.process.Condition.TheVariants.{Ready, Sending, Receiving, OnLink, Alternating}
use Rattle.machine_state.specs.declared.process.Condition.TheVariants.{Stopped, Ended}
use Rattle.machine_state.specs.declared.process.Exchange.{Exchange}
use Rattle.machine_state.specs.Memory.{Memory, place_of, local_address, byte_at, with_byte, with_word}
use Rattle.machine_state.specs.Holding.{Holding, nothing, may_write, may_write_word, may_read_word}
use Rattle.machine_state.specs.Spans.{Share, all_places, less, writes_place}
use Rattle.machine_state.specs.World.{World, Role, Join, held, holding_at}
use Rattle.machine_state.specs.Site.{Site, Local, Outcome}
use Rattle.machine_state.specs.LocalStep as step
use Rattle.machine_state.specs.Moves.{wake, fill, fill_condition, dispatch, link_index, channel_at, put, with_channel}
use Rattle.machine_state.specs.Moves.{with_input, with_output, with_condition}
use Rattle.machine_state.specs.Turn.{Turn, Effect, Here, at_here, continued, answered}
use Rattle.machine_state.specs.Exchanges.{output_link, condition_of, waits_at}
use Rattle.machine_state.specs.Alternations.{chosen, selected, in_mode}
use Rattle.machine_state.specs.declared.process.Mode.TheVariants.{Disabling, Starting}
use Rattle.prefix_decoder.specs.declared.function.Fun.{Fun}
use Rattle.machine_state.specs.Joins.{without_words, started, opened, ended, given_back, join_after}
use Rattle.machine_state.specs.StartPlans.{Plan, scheduling_places, scheduling_addresses, word_passes, share_by}
use Rattle.machine_state.specs.StartPlans.{share_is_there, words_are_held, block_addresses, channel_addresses, hidden}
use Rattle.machine_state.specs.StartPlans.{later_plan}
use Rattle.machine_state.specs.JoinLookups.{Found, opened_by, named_from}
use Rattle.machine_state.specs.BranchShares.{frame_address}
use Rattle.machine_state.specs.Happens as happens
use Rattle.machine_state.specs.Happens.{site_of, between}
use Rattle.machine_state.specs.Frame.{ChangesOwn, LeavesOthers}
use Rattle.machine_state.specs.Writing.{outcome_of, of_waiting, Delivery, delivered_to, delivery_on, delivery_by}
use Rattle.machine_state.specs.Writing.{delivery, is_delivered, is_own, WritesWell, StepWrites, StepsWriteOwn}
use Rattle.machine_state.specs.Writing.{wanted_by, wanted_on, ArriveWrites, ArrivalsWriteOne}
use Rattle.machine_state.specs.Writing.{AcknowledgementsWriteNothing}
use Rattle.machine_state.proofs.Reading.{length-with_byte, byte_at-with_byte, byte_at-with_byte_other}
use Rattle.machine_state.proofs.EveryInstruction.{Wants, OfAsked, wants_asked, here, scheduled, each_step}
use Rattle.machine_state.proofs.Frame.{changes_more, changes_nothing, write_is_own, byte_is_own, copy_is_own}
use Rattle.machine_state.proofs.Frame.{steps_change_own}
use Rattle.machine_state.proofs.SpanLaws.{runs_tell}
use Rattle.machine_state.proofs.MovesLeaveAlone.{on_task_only, wake_only, rouse_only, on_role_only, joined_quiet}
use Rattle.machine_state.proofs.Starting.{first_tests, later_tests}
use Rattle.machine_state.specs.Endings as turns
use Rattle.machine_state.proofs.Turns.{turn_happens}
use Rattle.machine_state.specs.Endings.{Moved, TurnsInto, Happened, local_here, plan_of}

-- ---- bytes that stay defined were not made undefined

kept_byte : (m : Memory) (place q : ℕ) → is_some (byte_at (with_byte m place None) q) ≡ true
    → byte_at (with_byte m place None) q ≡ byte_at m q
kept_byte m place q there = elim (cases_eq q place) [
  | inl same ↦ elim (cases_lt place (length m)) [
    | inl inside ↦
        let gone : byte_at (with_byte m place None) q ≡ None =
        ap (byte_at (with_byte m place None)) same ∙ byte_at-with_byte m place None inside in
        let x : false ≡ true = sym (ap is_some gone) ∙ there in cc
    | inr past ↦
        let size : length (with_byte m place None) ≡ length m = length-with_byte m place None in
        get_or_past (with_byte m place None) q None (omega arith) ∙ sym (get_or_past m q None (omega arith))
  ]
  | inr other ↦ byte_at-with_byte_other m place q None other
]

pub kept_word : (m : Memory) (place q : ℕ) → is_some (byte_at (with_word m place None) q) ≡ true
    → byte_at (with_word m place None) q ≡ byte_at m q
unfolding with_word
kept_word m place q there =
    let one = with_byte m place None in
    let two = with_byte one (place + 1) None in
    let three = with_byte two (place + 2) None in
    let a : byte_at (with_byte three (place + 3) None) q ≡ byte_at three q = kept_byte three (place + 3) q there in
    let b : byte_at three q ≡ byte_at two q = kept_byte two (place + 2) q (sym (ap is_some a) ∙ there) in
    let c : byte_at two q ≡ byte_at one q =
    kept_byte one (place + 1) q (sym (ap is_some (a ∙ b)) ∙ there) in
    let d : byte_at one q ≡ byte_at m q = kept_byte m place q (sym (ap is_some (a ∙ (b ∙ c))) ∙ there) in
    a ∙ (b ∙ (c ∙ d))

kept_scheduled : (r : Registers) (m : Memory) (q : ℕ) → is_some (byte_at (scheduled r m) q) ≡ true
    → byte_at (scheduled r m) q ≡ byte_at m q
kept_scheduled r m q there =
    let below = λ (n : ℕ). place_of (local_address r.workspace (negsuc n)) in
    let one = with_word m (below 0) None in
    let two = with_word one (below 1) None in
    let a : byte_at (with_word two (below 2) None) q ≡ byte_at two q = kept_word two (below 2) q there in
    let b : byte_at two q ≡ byte_at one q = kept_word one (below 1) q (sym (ap is_some a) ∙ there) in
    let c : byte_at one q ≡ byte_at m q = kept_word m (below 0) q (sym (ap is_some (a ∙ b)) ∙ there) in
    a ∙ (b ∙ c)

pub all_at : (test : ℕ → Bool) (place n i : ℕ) → all_places test place n ≡ true → i < n → test (place + i) ≡ true
unfolding all_places
all_at test place zero i all inside = absurd (omega arith)
all_at test place (suc n) zero all inside =
    let e : place + 0 ≡ place = omega arith in rw e (and_parts _ _ all).0
all_at test place (suc n) (suc i) all inside =
    let e : place + suc i ≡ place + 1 + i = omega arith in
    rw e (all_at test (place + 1) n i (and_parts _ _ all).1 (omega arith))

-- ---- what an outcome says of a message: it has a byte at least

abbrev pub Message : Site → Memory → Outcome → Type 0
Message s old = OfAsked
    (λ e l. (all_places (may_write s.holding) (place_of e.address) e.length ≡ true) × (1 ≤ e.length))
    (λ e l. ((i : ℕ) → i < e.length
    → byte_at l.memory (place_of e.address + i) ≡ byte_at old (place_of e.address + i)) × (1 ≤ e.length)) (λ address. ⊤)

pub messages : (s : Site) (r : Registers) (old : Memory)
    → Wants s r old old (λ r m n. m ≡ n) (λ o other. Message s old o)
messages s r old = wants_asked s r old _ _ _ (λ e asked own. (own, asked.some)) (λ e asked defined. (
  (λ i inside. kept_scheduled r old (place_of e.address + i)
      (all_at (λ place. is_some (byte_at (scheduled r old) place)) (place_of e.address) e.length i defined inside)),
  asked.some,
)) (λ at held. tt)

-- ---- a message that is copied

copied_size : (from : Memory) (source to n : ℕ) (m : Memory) → length (step.copied from source to n m) ≡ length m
unfolding step.copied
copied_size from source to zero m = refl
copied_size from source to (suc n) m =
    copied_size from (source + 1) (to + 1) n (with_byte m to (byte_at from source)) ∙ length-with_byte m to _

copied_others : (from : Memory) (source to n : ℕ) (m : Memory) (q : ℕ) → (q < to) ⊎ (to + n ≤ q)
    → byte_at (step.copied from source to n m) q ≡ byte_at m q
unfolding step.copied
copied_others from source to zero m q apart = refl
copied_others from source to (suc n) m q apart =
    copied_others from (source + 1) (to + 1) n (with_byte m to (byte_at from source)) q
    (elim apart [ inl below ↦ inl (omega arith) | inr above ↦ inr (omega arith) ])
    ∙ byte_at-with_byte_other m to q (byte_at from source)
    (elim apart [ inl below ↦ omega arith | inr above ↦ omega arith ])

copied_become : (from : Memory) (source to n : ℕ) (m : Memory) (i : ℕ) → i < n → to + i < length m
    → byte_at (step.copied from source to n m) (to + i) ≡ byte_at from (source + i)
unfolding step.copied
copied_become from source to zero m i inside there = absurd (omega arith)
copied_become from source to (suc n) m zero inside there =
    let a : to + 0 ≡ to = omega arith in
    let b : source + 0 ≡ source = omega arith in
    rw (a, b) (copied_others from (source + 1) (to + 1) n (with_byte m to (byte_at from source)) to (inl (omega arith))
    ∙ byte_at-with_byte m to (byte_at from source) (omega arith))
copied_become from source to (suc n) m (suc i) inside there =
    let a : to + suc i ≡ to + 1 + i = omega arith in
    let b : source + suc i ≡ source + 1 + i = omega arith in
    let size : length (with_byte m to (byte_at from source)) ≡ length m = length-with_byte m to _ in
    rw (a, b) (copied_become from (source + 1) (to + 1) n (with_byte m to (byte_at from source)) i (omega arith)
    (omega arith))

-- ---- the words that a start takes

words_are_own : (h : Holding) (addresses : List ℕ) (m : Memory)
    → list_all (λ a. may_write_word h (place_of a)) addresses ≡ true → ChangesOwn h m (without_words addresses m)
words_are_own h [] m own = changes_nothing h m
words_are_own h (a ∷ addresses) m own =
    let both = and_parts _ _ own in
    changes_more h m (with_word m (place_of a) None) _ (write_is_own h m (place_of a) None both.0)
    (words_are_own h addresses (with_word m (place_of a) None) both.1)

passed_word : (h : Holding) (test : ℕ → Bool) → ((q : ℕ) → test q ≡ true → may_write h q ≡ true) → (place : ℕ)
    → word_passes test place ≡ true → may_write_word h place ≡ true
unfolding may_write_word
passed_word h test own place passes =
    let p = and_parts _ _ passes in
    let q = and_parts _ _ p.0 in
    let r = and_parts _ _ q.0 in
    and_from _ _ (and_from _ _ (and_from _ _ (own _ r.0) (own _ r.1)) (own _ q.1)) (own _ p.1)

scheduling_is_own : (h : Holding) (test : ℕ → Bool) (workspace : ℕ)
    → ((q : ℕ) → test q ≡ true → may_write h q ≡ true)
    → list_all (word_passes test) (scheduling_places workspace) ≡ true
    → list_all (λ a. may_write_word h (place_of a)) (scheduling_addresses workspace) ≡ true
scheduling_is_own h test workspace own passes =
    let p = and_parts _ _ passes in
    let q = and_parts _ _ p.1 in
    let r = and_parts _ _ q.1 in
    and_from _ _ (passed_word h test own _ p.0) (and_from _ _ (passed_word h test own _ q.0)
    (and_from _ _ (passed_word h test own _ r.0) refl))

-- what is left was there
less_writes : (n : ℕ) (h : Holding) (share : Share) (q : ℕ) → may_write (less n h share) q ≡ true
    → may_write h q ≡ true
unfolding less
less_writes n h share q own =
    (and_parts _ _ (and_parts _ _ (runs_tell _ 0 n q own).passes).0).0

-- the scheduling words of the new process, by the test of the start
start_is_own : (h : Holding) (n : ℕ) (plan : Plan) (workspace : ℕ) (found : Found) (m : Memory)
    → ((q : ℕ) → may_write plan.rest q ≡ true → may_write h q ≡ true)
    → share_is_there n plan workspace found.branch ≡ true
    → ChangesOwn h m (without_words (scheduling_addresses workspace) m)
start_is_own h n plan workspace found m own there =
    words_are_own h (scheduling_addresses workspace) m
    (scheduling_is_own h (λ place. may_write plan.rest place
    && writes_place (share_by plan found.branch) place) workspace
    (λ q both. own q (and_parts _ _ both).0) (and_parts _ _ (and_parts _ _ there).0).0)

-- the words that an open join keeps
words_taken : (h : Holding) (plan : Plan) → words_are_held h plan ≡ true
    → list_all (λ a. may_write_word h (place_of a))
    (block_addresses plan.base plan.par ++ channel_addresses plan.base plan.par) ≡ true
words_taken h plan held =
    (and_parts (list_all (λ a. may_write_word h (place_of a))
    (block_addresses plan.base plan.par ++ channel_addresses plan.base plan.par))
    (list_all (λ (named : Option ℤ). elim named as (λ o. Bool) [
      | None ↦ true
      | Some word ↦ may_read_word h (place_of (frame_address plan.base word))
    ]) (named_from plan.par 0 plan.parameters)) held).0

-- what the process with an open join holds
holds_rest : (w : World) (p : ℕ) (j : Join) → opened_by w p ≡ Some j → holding_at w.roles p ≡ j.rest
holds_rest w p j is = on (slice_get w.roles p) is
  where
    on_role : (own : Holding) (o : Option Join) → o ≡ Some j → elim o [ None ↦ own | Some join ↦ join.rest ] ≡ j.rest
    on_role own None h = absurd (cc)
    on_role own (Some join) h = let e : join ≡ j = cc in ap (λ (x : Join). x.rest) e

    on : (o : Option Role) → elim o as (λ o. Option Join) [ None ↦ None | Some role ↦ role.opened ] ≡ Some j
        → elim o as (λ o. Holding) [ None ↦ nothing | Some role ↦ held role ] ≡ j.rest
    on None h = absurd (cc)
    on (Some role) h = on_role role.own role.opened h

-- ---- by the way in which the world has moved

-- what there is of who waits on an internal channel
pub of_waiting_is : {A : Type 0} (link : Option ℕ) (w : World) (e : Exchange) (find : Condition → Option A)
    (c : Channel) (o : Option ℕ) → link ≡ None → channel_at w e.channel ≡ Some c → c.waiting ≡ o
    → of_waiting link w e find ≡ elim o as (λ o. Option A) [ None ↦ None | Some other ↦ find (condition_of w other) ]
of_waiting_is {A = A} link w e find c o inside there is =
    ap (λ (k : Option ℕ). of_waiting k w e find) inside
    ∙ (ap (λ (c : Option Channel). elim c as (λ c. Option A) [
      | None ↦ None
      | Some channel ↦ elim channel.waiting as (λ o. Option A)
          [ None ↦ None | Some other ↦ find (condition_of w other) ]
    ]) there
    ∙ ap (λ (o : Option ℕ). elim o as (λ o. Option A)
    [ None ↦ None | Some other ↦ find (condition_of w other) ]) is)

nothing_on_a_link : (w : World) (e : Exchange) (k : ℕ) → output_link e.channel ≡ Some k → delivery_on w e ≡ None
nothing_on_a_link w e k is = ap (λ (k : Option ℕ). of_waiting k w e (delivered_to e)) is

-- no message is delivered: only own bytes have changed
only_own : (h : Holding) (d : Option Delivery) (old middle new : Memory) → ChangesOwn h old middle → d ≡ None
    → new ≡ middle → WritesWell (may_write h) d old new
only_own h d old middle new changes none same = rw same (record {
  size = changes.size;
  others = λ place own outside. changes.others place own;
  become = λ x is i inside there. absurd (let e : None ≡ Some x = sym none ∙ is in cc);
})

-- a message goes to the receiver's buffer
delivers : (h : Holding) (d : Option Delivery) (e wanted : Exchange) (old middle new : Memory)
    → ChangesOwn h old middle → d ≡ Some (record { sent = e; wanted = wanted })
    → ((i : ℕ) → i < e.length → byte_at middle (place_of e.address + i) ≡ byte_at old (place_of e.address + i))
    → new ≡ step.copied middle (place_of e.address) (place_of wanted.address) e.length middle
    → WritesWell (may_write h) d old new
delivers h d e wanted old middle new changes is sent same = rw (same, is) (record {
  size = copied_size middle source to e.length middle ∙ changes.size;
  others = others;
  become = become;
})
  where
    source : ℕ
    source = place_of e.address

    to : ℕ
    to = place_of wanted.address

    others : (q : ℕ) → may_write h q ≡ false
        → is_delivered (Some (record { sent = e; wanted = wanted })) q ≡ false
        → byte_at (step.copied middle (place_of e.address) (place_of wanted.address) e.length middle) q ≡ byte_at old q
    others q own outside = copied_others middle source to e.length middle q
        (apart (cases_lt q to) (cases_lt q (to + e.length)))
        ∙ changes.others q own
      where
        apart : (q < to) ⊎ (to ≤ q) → (q < to + e.length) ⊎ (to + e.length ≤ q) → (q < to) ⊎ (to + e.length ≤ q)
        apart (inl below) b = inl below
        apart (inr above) (inr past) = inr past
        apart (inr above) (inl within) = absurd (
            let x : true ≡ false = sym (and_from _ _ (le-leb to q above) (lt-ltb q (to + e.length) within)) ∙ outside
            in cc)

    become : (x : Delivery) → Some (record { sent = e; wanted = wanted }) ≡ Some x → (i : ℕ) → i < x.sent.length
        → place_of x.wanted.address + i < length old
        → byte_at (step.copied middle (place_of e.address) (place_of wanted.address) e.length middle)
        (place_of x.wanted.address + i) ≡ byte_at old (place_of x.sent.address + i)
    become x same_one =
        let same : record { sent = e; wanted = wanted } ≡ x = cc in
        subst (λ (x : Delivery). (i : ℕ) → i < x.sent.length → place_of x.wanted.address + i < length old
        → byte_at (step.copied middle (place_of e.address) (place_of wanted.address) e.length middle)
        (place_of x.wanted.address + i) ≡ byte_at old (place_of x.sent.address + i)) same
        (λ i inside there. copied_become middle source to e.length middle i inside (omega (arith, changes.size))
        ∙ sent i inside)

module _ (h : Here) (w : World) where
  abbrev hold : Holding
  hold = holding_at w.roles h.process

  abbrev Writes : Outcome → Memory → Type 0
  Writes o new = WritesWell (may_write hold) (delivery_by w o) w.memory new

  first_is_own : (e : Exchange) → all_places (may_write hold) (place_of e.address) e.length ≡ true → 1 ≤ e.length
      → may_write hold (place_of e.address) ≡ true
  first_is_own e own some =
      let at : place_of e.address + 0 ≡ place_of e.address = omega arith in
      rw at at (all_at (may_write hold) (place_of e.address) e.length 0 own (omega arith))

  chosen_memory : (is_ready : Bool) (distance : ℤ) (l : Local) → (chosen h is_ready distance l w).memory ≡ l.memory
  chosen_memory is_ready distance l = on (selected h.from.mode is_ready distance)
    where
      on : (b : Bool) → (if b
          then in_mode h (Disabling (Some distance)) (step.with_a_alone (Some (pos 1)) l) w
          else continued h h.next (step.with_a_alone (Some (pos 0)) l) w).memory ≡ l.memory
      on true = refl
      on false = refl

  started_memory : (plan : Plan) (found : Found) (workspace : ℕ) (l : Local) (v : World)
      → (started h plan found workspace l v).memory ≡ without_words (scheduling_addresses workspace) l.memory
  started_memory plan found workspace l v = (on_role_only h.process
      (λ role. record role { opened = Some (join_after (length v.memory) plan found (length v.tasks)) })
      (put h.process (record h.from { registers = between h.next l.registers; mode = Starting })
      (without_words (scheduling_addresses workspace) l.memory) v)).quiet.memory

  moved_writes : (o : Outcome) (after : World) → Moved h w o after → LeavesOthers hold w.memory o
      → Message (site_of h w) w.memory o → Writes o after.memory
  unfolding dispatch
  moved_writes o after (turns.it_goes l) own says = only_own hold None w.memory l.memory _ own refl refl
  moved_writes o after (turns.it_jumps to l) own says = only_own hold None w.memory l.memory _ own refl refl
  moved_writes o after (turns.it_is_sliced to l) own says = only_own hold None w.memory l.memory _ own refl refl
  moved_writes o after (turns.it_lands to l) own says = only_own hold None w.memory l.memory _ own refl refl
  moved_writes o after (turns.it_stops l) own says = only_own hold None w.memory l.memory _ own refl refl
  moved_writes o after (turns.receives_first e l c inside there nobody) own says =
      only_own hold None w.memory l.memory _ own refl refl
  moved_writes o after (turns.receives_from e l c other sent inside there partner is same) own says =
      only_own hold None w.memory
      (step.copied l.memory (place_of sent.address) (place_of e.address) sent.length l.memory) _
      (changes_more hold w.memory l.memory _ own (copy_is_own hold l.memory (place_of sent.address) (place_of e.address)
      sent.length l.memory (subst (λ n. all_places (may_write hold) (place_of e.address) n ≡ true)
      (sym (eqb-true sent.length e.length same)) says.0))) refl (wake_only other
      (with_channel sent.channel (record c { waiting = None }) (continued h h.next
      (record l {
        memory = step.copied l.memory (place_of sent.address) (place_of e.address) sent.length l.memory;
      }) w))).memory
  moved_writes o after (turns.receives_none e l k link on there none) own says =
      only_own hold None w.memory l.memory _ own refl refl
  moved_writes o after (turns.receives_last e l k link byte on there kept one) own says =
      only_own hold None w.memory (with_byte l.memory (place_of e.address) (Some byte)) _
      (changes_more hold w.memory l.memory _ own
      (byte_is_own hold l.memory (place_of e.address) (Some byte) (first_is_own e says.0 says.1))) refl refl
  moved_writes o after (turns.receives_one e l k link byte on there kept more) own says =
      only_own hold None w.memory (with_byte l.memory (place_of e.address) (Some byte)) _
      (changes_more hold w.memory l.memory _ own
      (byte_is_own hold l.memory (place_of e.address) (Some byte) (first_is_own e says.0 says.1))) refl refl
  moved_writes o after (turns.sends_first e l c inside there nobody) own says =
      only_own hold (delivery_on w e) w.memory l.memory _ own
      (of_waiting_is _ w e (delivered_to e) c None inside there nobody)
      (rouse_only c.enabled (waits_at h (Sending e) e.channel c l w)).memory
  moved_writes o after (turns.sends_to e l c other wanted inside there partner is same) own says =
      delivers hold (delivery_on w e) e wanted w.memory l.memory _ own
      (of_waiting_is _ w e (delivered_to e) c (Some other) inside there partner ∙ ap (delivered_to e) is)
      says.0 (wake_only other
      (with_channel e.channel (record c { waiting = None }) (continued h h.next
      (record l {
        memory = step.copied l.memory (place_of e.address) (place_of wanted.address) e.length l.memory;
      }) w))).memory
  moved_writes o after (turns.starts_first target workspace l found is none tests) own says =
      let plan = plan_of h w found in
      let addresses = block_addresses plan.base plan.par ++ channel_addresses plan.base plan.par in
      let taken = without_words addresses l.memory in
      let may = first_tests h.contents w.memory hold plan found workspace tests in
      only_own hold None w.memory (without_words (scheduling_addresses workspace) taken) _
      (changes_more hold w.memory l.memory _ own (changes_more hold l.memory taken _
      (words_are_own hold addresses l.memory (words_taken hold plan may.1.held))
      (start_is_own hold (length w.memory) plan workspace found taken
      (λ q rest. less_writes (length w.memory) hold (hidden plan.base plan.par) q rest) may.0.share))) refl
      (started_memory plan found workspace (opened h plan l w).0 (opened h plan l w).1)
  moved_writes o after (turns.starts_later target workspace l found j is is_open same tests) own says =
      let plan = later_plan h.contents j found.par in
      let may = later_tests (length w.memory) plan found workspace tests in
      only_own hold None w.memory (without_words (scheduling_addresses workspace) l.memory) _
      (changes_more hold w.memory l.memory _ own
      (start_is_own hold (length w.memory) plan workspace found l.memory
      (λ q rest. subst (λ (g : Holding). may_write g q ≡ true) (sym (holds_rest w h.process j is_open)) rest)
      may.share))
      refl (started_memory plan found workspace l w)
  moved_writes o after (turns.joins_own block l j par is row all) own says =
      only_own hold None w.memory l.memory _ own refl (joined_quiet h h.process j par (ended h l w)).memory
  moved_writes o after (turns.joins_opener block l opener j par none by is row same) own says =
      only_own hold None w.memory l.memory _ own refl ((joined_quiet h opener j par (given_back h (ended h l w))).memory
      ∙ (on_role_only h.process (λ role. record role { own = nothing }) (ended h l w)).quiet.memory)
  moved_writes o after (turns.it_begins l) own says = only_own hold None w.memory l.memory _ own refl refl
  moved_writes o after (turns.it_enables guard address l s holds (turns.on_channel c inside there) once) own says =
      only_own hold None w.memory l.memory _ own refl refl
  moved_writes o after (turns.it_enables guard address l s holds (turns.on_link k link on there) once) own says =
      only_own hold None w.memory l.memory _ own refl refl
  moved_writes o after (turns.it_enables_nothing guard address l off) own says =
      only_own hold None w.memory l.memory _ own refl refl
  moved_writes o after (turns.it_enables_a_skip guard l) own says =
      only_own hold None w.memory l.memory _ own refl refl
  moved_writes o after (turns.it_is_ready l is) own says = only_own hold None w.memory l.memory _ own refl refl
  moved_writes o after (turns.it_waits l is) own says = only_own hold None w.memory l.memory _ own refl refl
  moved_writes o after (turns.it_disables guard address distance l s holds (turns.on_channel c inside there) mine) own
      says = only_own hold None w.memory l.memory _ own refl (chosen_memory (is_some c.waiting) distance l)
  moved_writes o after (turns.it_disables guard address distance l s holds (turns.on_link k link on there) mine) own
      says = only_own hold None w.memory l.memory _ own refl (chosen_memory (is_some link.kept) distance l)
  moved_writes o after (turns.it_disables_nothing guard address distance l off) own says =
      only_own hold None w.memory l.memory _ own refl (chosen_memory false distance l)
  moved_writes o after (turns.it_disables_a_skip guard distance l) own says =
      only_own hold None w.memory l.memory _ own refl (chosen_memory guard distance l)
  moved_writes o after (turns.it_ends_alternation to l none) own says =
      only_own hold None w.memory l.memory _ own refl refl

  end_writes : (o : Outcome) (t : Turn) → TurnsInto h w o t → LeavesOthers hold w.memory o
      → Message (site_of h w) w.memory o
      → StepWrites (may_write hold) (delivery_by w o) w.memory t.world.memory t.answer
  unfolding dispatch
  end_writes o t (turns.at_fault refused) own says = refl
  end_writes o t (turns.has_run moved) own says = moved_writes o _ moved own says
  end_writes o t (turns.has_emitted e l k on same) own says =
      only_own hold (delivery_on w e) w.memory l.memory _ own (nothing_on_a_link w e k on) refl

-- ---- by the event

-- the same with what is known of the running process
writes_as : (own mine : ℕ → Bool) (d given : Option Delivery) (old new : Memory) (answer : Result Effect Fault)
    → ((q : ℕ) → mine q ≡ own q) → given ≡ d → StepWrites own d old new answer → StepWrites mine given old new answer
writes_as own mine d given old new (Err f) same is h = h
writes_as own mine d given old new (Ok effect) same is h = on effect h
  where
    well : WritesWell own d old new → WritesWell mine given old new
    well h = record {
      size = h.size;
      others = λ q not_mine outside. h.others q (sym (same q) ∙ not_mine) (sym (ap (λ (d : Option Delivery).
          is_delivered d q) is) ∙ outside);
      become = λ x e. h.become x (sym is ∙ e);
    }

    on : (effect : Effect) → StepWrites own d old new (Ok effect) → StepWrites mine given old new (Ok effect)
    on happens.idle h = h
    on happens.ran h = well h
    on (happens.emitted link bytes) h = well h
    on happens.taken h = well h
    on happens.kept h = well h
    on happens.busy h = well h
    on happens.acknowledged h = well h
    on happens.ignored h = well h

module _ (m : Contents) (w : World) where
  -- the outcome of the byte, once the process, its task, the byte and its function are known
  abbrev of_function : ℕ → Task → ℕ → Option Fun → Option Outcome
  of_function p task byte f = elim f as (λ f. Option Outcome) [
    | None ↦ None
    | Some f ↦ Some (step.local_step (site_of (at_here m p task 0) w) f
        (with_nibble task.registers.operand (nibble byte)) (local_here task w))
  ]

  abbrev of_byte : ℕ → Task → Option ℕ → Option Outcome
  of_byte p task byte = elim byte as (λ b. Option Outcome)
      [ None ↦ None | Some byte ↦ of_function p task byte (fun_of (function_code byte)) ]

  abbrev of_task : ℕ → Option Task → Option Outcome
  of_task p task = elim task as (λ t. Option Outcome)
      [ None ↦ None | Some task ↦ of_byte p task (slice_get m.code task.registers.at) ]

  abbrev of_runner : Option ℕ → Option Outcome
  of_runner p = elim p as (λ p. Option Outcome) [ None ↦ None | Some p ↦ of_task p (slice_get w.tasks p) ]

  pub outcome_is : (p : ℕ) (task : Task) (byte : ℕ) (f : Option Fun) → w.queue.running ≡ Some p
      → slice_get w.tasks p ≡ Some task → slice_get m.code task.registers.at ≡ Some byte
      → fun_of (function_code byte) ≡ f → outcome_of m w ≡ of_function p task byte f
  outcome_is p task byte f runs here at is =
      ap of_runner runs ∙ (ap (of_task p) here ∙ (ap (of_byte p task) at ∙ ap (of_function p task byte) is))

  own_is : (p : ℕ) → w.queue.running ≡ Some p → (q : ℕ) → is_own w q ≡ may_write (holding_at w.roles p) q
  own_is p runs q = ap (λ (o : Option ℕ). elim o as (λ o. Bool)
      [ None ↦ false | Some p ↦ may_write (holding_at w.roles p) q ]) runs

  abbrev delivered : Option Outcome → Option Delivery
  delivered o = elim o as (λ o. Option Delivery) [ None ↦ None | Some o ↦ delivery_by w o ]

  step_writes : (p : ℕ) (task : Task) (byte : ℕ) (f : Fun) (pick : ℕ) (t : Turn) → w.queue.running ≡ Some p
      → slice_get w.tasks p ≡ Some task → slice_get m.code task.registers.at ≡ Some byte
      → fun_of (function_code byte) ≡ Some f
      → TurnsInto (at_here m p task pick) w
      (step.local_step (site_of (at_here m p task pick) w) f (with_nibble task.registers.operand (nibble byte))
      (local_here task w)) t
      → StepWrites (is_own w) (delivery m w) w.memory t.world.memory t.answer
  step_writes p task byte f pick t runs here at is ends =
      let h = at_here m p task pick in
      let s = site_of h w in
      let operand = with_nibble task.registers.operand (nibble byte) in
      writes_as (may_write (holding_at w.roles p)) (is_own w)
      (delivery_by w (step.local_step s f operand (local_here task w))) (delivery m w) w.memory
      t.world.memory t.answer (own_is p runs) (ap delivered (outcome_is p task byte (Some f) runs here at is))
      (end_writes h w _ t ends (steps_change_own s f operand (local_here task w))
      (each_step s task.registers w.memory w.memory (λ r m n. m ≡ n) (λ o other. Message s w.memory o)
      (messages s task.registers w.memory) refl f operand))

  wanted_is : (link : Link) (input : InputLink) (p : ℕ) → slice_get w.links.inputs (link_index link) ≡ Some input
      → input.waiting ≡ Some p → wanted_on w link ≡ wanted_by (condition_of w p)
  wanted_is link input p here waiting =
      ap (λ (i : Option InputLink). elim i as (λ i. Option ℕ) [
        | None ↦ None
        | Some input ↦ elim input.waiting as (λ o. Option ℕ)
            [ None ↦ None | Some p ↦ wanted_by (condition_of w p) ]
      ]) here ∙ ap (λ (o : Option ℕ). elim o as (λ o. Option ℕ)
      [ None ↦ None | Some p ↦ wanted_by (condition_of w p) ]) waiting

  abbrev Fills : ℕ → Option ℕ → Memory → Type 0
  Fills byte wanted new = ArriveWrites wanted byte w.memory new (Ok happens.taken)

  -- nothing is wanted, and memory is as it was
  stays : (byte : ℕ) (answer : Result Effect Fault) (wanted : Option ℕ) (new : Memory)
      → ((place : ℕ) → wanted ≡ Some place → answer ≡ Ok happens.taken → ⊥) → new ≡ w.memory
      → ArriveWrites wanted byte w.memory new answer
  stays byte answer wanted new never same = rw same (record {
    size = refl;
    others = λ place other. refl;
    becomes = λ place is ok inside. absurd (never place is ok);
  })

  one_byte : (byte place : ℕ) (new : Memory) → new ≡ with_byte w.memory place (Some byte)
      → Fills byte (Some place) new
  one_byte byte place new same = rw same (record {
    size = length-with_byte w.memory place (Some byte);
    others = λ q other. byte_at-with_byte_other w.memory place q (Some byte)
        (λ (e : q ≡ place). other (ap Some (sym e)));
    becomes = λ q is ok inside.
        let e : place ≡ q = cc in
        subst (λ q. byte_at (with_byte w.memory place (Some byte)) q ≡ Some byte) e
        (byte_at-with_byte w.memory place (Some byte) (omega arith));
  })

  fill_writes : (p k byte : ℕ) (link : InputLink)
      → Fills byte (wanted_by (condition_of w p)) (fill p k byte link w).memory
  fill_writes p k byte link = on (slice_get w.tasks p)
    where
      on_condition : (c : Condition) → Fills byte (wanted_by c) (fill_condition p k byte link c w).memory
      on_condition Ready = stays byte _ _ _ (λ place is ok. cc) refl
      on_condition (Sending e) = stays byte _ _ _ (λ place is ok. cc) refl
      on_condition (Receiving e) = stays byte _ _ _ (λ place is ok. cc) refl
      on_condition (OnLink e done) = one_byte byte _ _ (on_last (done + 1 == e.length))
        where
          filled : World
          filled = record w {
            memory = with_byte w.memory (place_of ((e.address + done) % 2 ^ 32)) (Some byte);
          }

          on_last : (b : Bool) → (if b
              then wake p (with_input k (record link { waiting = None }) (record w {
                memory = with_byte w.memory (place_of ((e.address + done) % 2 ^ 32)) (Some byte);
              }))
              else with_condition p (OnLink e (done + 1)) (record w {
                memory = with_byte w.memory (place_of ((e.address + done) % 2 ^ 32)) (Some byte);
              })).memory ≡ with_byte w.memory (place_of ((e.address + done) % 2 ^ 32)) (Some byte)
          on_last true = (wake_only p (with_input k (record link { waiting = None }) filled)).memory
          on_last false = (on_task_only p (λ task. record task { condition = OnLink e (done + 1) }) filled).memory
      on_condition Alternating = stays byte _ _ _ (λ place is ok. cc) refl
      on_condition Stopped = stays byte _ _ _ (λ place is ok. cc) refl
      on_condition Ended = stays byte _ _ _ (λ place is ok. cc) refl

      on : (o : Option Task) → Fills byte
          (wanted_by (elim o as (λ o. Condition) [ None ↦ Ready | Some task ↦ task.condition ]))
          (elim o as (λ o. World) [
            | None ↦ w
            | Some task ↦ fill_condition p k byte link task.condition w
          ]).memory
      on None = stays byte _ _ _ (λ place is ok. cc) refl
      on (Some task) = on_condition task.condition

  abbrev Wrote : Event → Turn → Type 0
  Wrote (Step slice pick) t = StepWrites (is_own w) (delivery m w) w.memory t.world.memory t.answer
  Wrote (Arrive link byte) t = ArriveWrites (wanted_on w link) byte w.memory t.world.memory t.answer
  Wrote (Acknowledge link) t = t.world.memory ≡ w.memory

  at_fault_wrote : (e : Event) (f : Fault) → Wrote e (record { world = w; answer = Err f })
  at_fault_wrote (Step slice pick) f = refl
  at_fault_wrote (Arrive link byte) f = stays byte (Err f) (wanted_on w link) w.memory (λ place is ok. cc) refl
  at_fault_wrote (Acknowledge link) f = refl

  rest_wrote : (e : Event) (effect : Effect) → turns.Rests e effect → Wrote e (answered effect w)
  rest_wrote e effect turns.is_idle = refl
  rest_wrote e effect (turns.is_busy {link = link} {byte = byte}) =
      stays byte (Ok happens.busy) (wanted_on w link) w.memory (λ place is ok. cc) refl
  rest_wrote e effect (turns.arrives_nowhere {link = link} {byte = byte}) =
      stays byte (Ok happens.ignored) (wanted_on w link) w.memory (λ place is ok. cc) refl
  rest_wrote e effect turns.is_ignored = refl

  wrote : (e : Event) (t : Turn) → Happened m w e t → Wrote e t
  unfolding dispatch
  wrote e t (turns.was_at_fault f is) = at_fault_wrote e f
  wrote e t (turns.it_rests rests) = rest_wrote e _ rests
  wrote e t (turns.is_outside p task why runs here) = refl
  wrote e t (turns.is_prefix p task byte operand runs here at none it next) =
      writes_as (may_write (holding_at w.roles p)) (is_own w) None (delivery m w) w.memory w.memory
      (Ok happens.ran) (own_is p runs) (ap delivered (outcome_is p task byte None runs here at none))
      (only_own (holding_at w.roles p) None w.memory w.memory w.memory
      (changes_nothing (holding_at w.roles p) w.memory) refl refl)
  wrote e t (turns.is_step {pick = pick} p task byte f runs here at is ends) =
      step_writes p task byte f pick t runs here at is ends
  wrote e t (turns.is_taken {link = link} {byte = byte} input p here waiting) =
      subst (λ (wanted : Option ℕ). Fills byte wanted (fill p (link_index link) byte input w).memory)
      (sym (wanted_is link input p here waiting)) (fill_writes p (link_index link) byte input)
  wrote e t (turns.is_kept {link = link} {byte = byte} input here nobody empty) =
      stays byte (Ok happens.kept) (wanted_on w link) _ (λ place is ok. cc)
      (rouse_only input.enabled (with_input (link_index link) (record input { kept = Some byte }) w)).memory
  wrote e t (turns.is_acknowledged {link = link} output p here waiting) =
      (wake_only p (with_output (link_index link) (record { waiting = None }) w)).memory

pub steps_write_own : StepsWriteOwn
steps_write_own m w slice pick =
    wrote m w (Step slice pick) _ (turn_happens m w (Step slice pick))

pub arrivals_write_one : ArrivalsWriteOne
arrivals_write_one m w link byte =
    wrote m w (Arrive link byte) _ (turn_happens m w (Arrive link byte))

pub acknowledgements_write_nothing : AcknowledgementsWriteNothing
acknowledgements_write_nothing m w link =
    wrote m w (Acknowledge link) _ (turn_happens m w (Acknowledge link))
