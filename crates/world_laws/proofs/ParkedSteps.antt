-- An instruction of the running process leaves every process in order.
use Rattle.std.proofs.Common.{◌≡◌, ◌≢◌, ℕ, zero, suc, ◌+◌, ◌<◌, Bool, true, false, ◌⊎◌, inl, inr, ℤ, pos, List}
use Rattle.std.proofs.Common.{length, Option, Some, None, refl, sym, ap, ◌∙◌, subst, slice_get, arith}
use Rattle.std.proofs.lemmas.Bool.{cases_eq, and_parts}
use Rattle.std.proofs.lemmas.List.{length-set}
use Rattle.std.specs.List.{list_all}
use Rattle.std.specs.Prelude.{⊤, ◌%◌, ◌^◌, ◌&&◌, if◌then◌else◌, slice_set}
use Rattle.small_laws.proofs.Options.{same_some}
use Rattle.module_format.specs.Contents.{Par}
use Rattle.machine_state.specs.declared.process.Channel.{Channel}
use Rattle.machine_state.specs.declared.process.Condition.{Condition}
use Rattle.machine_state.specs.declared.process.Condition.TheVariants.{Ready, Sending, Receiving, OnLink, Alternating}
use Rattle.machine_state.specs.declared.process.Condition.TheVariants.{Stopped, Ended}
use Rattle.machine_state.specs.declared.process.Exchange.{Exchange}
use Rattle.machine_state.specs.declared.process.Mode.{Mode}
use Rattle.machine_state.specs.declared.process.Mode.TheVariants.{Plain, Enabling, Disabling, Starting}
use Rattle.machine_state.specs.declared.process.Registers.{Registers}
use Rattle.machine_state.specs.declared.process.Task.{Task}
use Rattle.machine_state.specs.Alternations.{chosen, selected, in_mode, ready_or}
use Rattle.machine_state.specs.Apart.{AllApart}
use Rattle.machine_state.specs.BranchShares.{holding_of}
use Rattle.machine_state.specs.EnabledLaws.{Enables, Disables}
use Rattle.machine_state.specs.Endings.{Moved, TurnsInto, local_here, plan_of}
use Rattle.machine_state.specs.Endings as turns
use Rattle.machine_state.specs.Exchanges.{condition_of, waits_at, output_link}
use Rattle.machine_state.specs.Happens.{site_of}
use Rattle.machine_state.specs.Holding.{Holding, nothing, may_write, may_read}
use Rattle.machine_state.specs.JoinLookups.{Found}
use Rattle.machine_state.specs.Joins.{member_joined, started, opened, ended, given_back, join_after, new_task}
use Rattle.machine_state.specs.Joins.{closed_task}
use Rattle.machine_state.specs.Joins.{without_words}
use Rattle.machine_state.specs.Joins as join
use Rattle.machine_state.specs.LocalStep.{with_a_alone}
use Rattle.machine_state.specs.Memory.{Memory, place_of, scheduling_word, byte_at, with_byte}
use Rattle.machine_state.specs.Moves.{on_task, wake, leave, dispatch}
use Rattle.machine_state.specs.Roles.{branch_role}
use Rattle.machine_state.specs.Site.{Local, Outcome}
use Rattle.machine_state.specs.Spans.{writes_place}
use Rattle.machine_state.specs.StartPlans.{Plan, later_plan, share_by, share_is_there, scheduling_places, word_passes}
use Rattle.machine_state.specs.StartPlans.{scheduling_addresses}
use Rattle.machine_state.specs.Turn.{Here, Turn, between, continued}
use Rattle.machine_state.specs.World.{World, Role, Join, Queue, holding_at, input_word, output_word}
use Rattle.machine_state.specs.World as parts
use Rattle.machine_state.proofs.Changes.{running_is_ready}
use Rattle.machine_state.proofs.Claims.{written_is_read}
use Rattle.machine_state.proofs.Lines.{set_either, got_either}
use Rattle.machine_state.proofs.Modes.{Fits}
use Rattle.machine_state.proofs.MovesLeaveAlone.{wake_only, rouse_only, on_role_only, joined_either, member_gone}
use Rattle.machine_state.proofs.MovesLeaveAlone.{with_opened}
use Rattle.machine_state.proofs.MovesLeaveAlone.{without, OnlyRoles}
use Rattle.machine_state.proofs.Reading.{byte_at-with_byte_other}
use Rattle.machine_state.proofs.Roles.{field_last}
use Rattle.machine_state.proofs.SpanLaws.{runs_have}
use Rattle.machine_state.proofs.Starting.{first_tests, later_tests}
use Rattle.machine_state.proofs.Waiting.{WaitsIn, link_found, link_low}
use Rattle.world_laws.specs.InsideMemory.{LiesIn}
use Rattle.world_laws.specs.Parked.{IsLive, IsInside, InWord, IsSchedulingPlace, HasWords, HasSelection, IsReceiving}
use Rattle.world_laws.specs.Parked.{on_channel, on_link, InBuffer, message_of}
use Rattle.world_laws.proofs.BlankWords.{first_of, blank_scheduled, words_with, selection_taken}
use Rattle.world_laws.proofs.HeldNow.{apart_at}
use Rattle.world_laws.proofs.InsideMemory.{AllLie, less_lies, rest_lies}
use Rattle.world_laws.proofs.ParkedTasks.{IsInOrder, EachInOrder, AllInOrder, IsData, runs_in_order, outside_in_order}
use Rattle.world_laws.proofs.ParkedTasks.{over_in_order, waits_in_order, weaker, still_in_order, all_weaker, all_set}
use Rattle.world_laws.proofs.ParkedTasks.{all_woken, all_roused, no_buffer, has_buffer, is_beside}
use Rattle.world_laws.proofs.ParkedTasks.{starting_is_outside, InOwn}
use Rattle.world_laws.proofs.Reaching.{Reaches, by_runner, by_message, by_arrival, Arrives}
use Rattle.world_laws.proofs.StepLeaves.{Leaves, IsSame, Selects, Messages, plain_is_outside}

-- who does not run
abbrev pub Aside : World → ℕ → Type 0
Aside w q = w.queue.running ≡ Some q → ⊥

abbrev pub Anyone : ℕ → Type 0
Anyone q = ⊤

-- what is known of a world
pub record Ground (w : World) : Type 0 where
  pub keeps : WaitsIn w
  pub apart : AllApart w.roles w.channels
  pub data_alone : (p : ℕ) → IsData (holding_at w.roles p)
  pub lies : AllLie (length w.memory) w.roles
  pub all : AllInOrder (Aside w) w

ended_or : (c : Condition) → (c ≡ Ended) ⊎ (c ≡ Ended → ⊥)
ended_or Ended = inl refl
ended_or Ready = inr (λ e. cc)
ended_or (Sending x) = inr (λ e. cc)
ended_or (Receiving x) = inr (λ e. cc)
ended_or (OnLink x done) = inr (λ e. cc)
ended_or Alternating = inr (λ e. cc)
ended_or Stopped = inr (λ e. cc)

-- where the next byte on a link goes
next_byte : (address done : ℕ) → place_of address + done < 0x80000000
    → place_of ((address + done) % 2 ^ 32) ≡ place_of address + done
unfolding place_of
next_byte address done low = omega (arith, low)

module _ (w : World) (g : Ground w) where
  -- the process that waits there receives
  receives_there : (x : ℕ) (a : Arrives w x) → IsReceiving a.waits.task.condition a.waits.exchange
  receives_there x a = on_link a.link a.waits.done a.waits.waits a.waits.on

  -- the byte follows those that have come
  pub arrives_at : (x : ℕ) (a : Arrives w x) → x ≡ place_of a.waits.exchange.address + a.waits.done
  arrives_at x a =
      let e = a.waits.exchange in
      let place = place_of e.address + a.waits.done in
      let more = a.waits.more in
      let own = (g.all a.process a.waits.task a.waits.here).buffer.writable e place (receives_there x a)
      (omega arith, omega (arith, more)) in
      a.is ∙ next_byte e.address a.waits.done (g.data_alone a.process place own)

  -- it is one of the buffer
  pub arrives_inside : (x : ℕ) (a : Arrives w x)
      → IsReceiving a.waits.task.condition a.waits.exchange × InBuffer a.waits.exchange x
  arrives_inside x a =
      let more = a.waits.more in
      let is = arrives_at x a in
      (receives_there x a, (omega (arith, is), omega (arith, is, more)))

  -- who may write a byte that is not of its buffer is not overwritten by messages
  pub not_arriving : (q : ℕ) (t : Task) (x : ℕ) → slice_get w.tasks q ≡ Some t
      → may_write (holding_at w.roles q) x ≡ true → (InOwn t x → ⊥) → Arrives w x → ⊥
  not_arriving q t x at own elsewhere a =
      let inside = arrives_inside x a in
      elim (cases_eq a.process q) [
        | inl same ↦
            let one = same_some (slice_get w.tasks q) a.waits.task t
            (subst (λ n. slice_get w.tasks n ≡ Some a.waits.task) same a.waits.here) at in
            elsewhere (
              a.waits.exchange,
              subst (λ (y : Task). IsReceiving y.condition a.waits.exchange) one inside.0,
              inside.1,
            )
        | inr differ ↦ apart_at w.roles w.channels g.apart a.process q x differ
            ((g.all a.process a.waits.task a.waits.here).buffer.writable a.waits.exchange x inside.0 inside.1) own
      ]

-- the running process goes on
pub wake_running : (q : ℕ) (w : World) → (wake q w).queue.running ≡ w.queue.running
wake_running q w = on (slice_get w.tasks q)
  where
    on : (o : Option Task) → (elim o as (λ o. World) [
      | None ↦ w
      | Some task ↦ record w { tasks = slice_set w.tasks q (record task { condition = Ready }) }
    ]).queue.running ≡ w.queue.running
    on None = refl
    on (Some t) = refl

-- roles alone change
on_role_running : (q : ℕ) (f : Role → Role) (w : World) → (join.on_role q f w).queue.running ≡ w.queue.running
on_role_running q f w = on (slice_get w.roles q)
  where
    on : (o : Option Role) → (elim o as (λ o. World) [
      | None ↦ w
      | Some role ↦ record w { roles = slice_set w.roles q (f role) }
    ]).queue.running ≡ w.queue.running
    on None = refl
    on (Some r) = refl

on_role_size : (q : ℕ) (f : Role → Role) (w : World) → length (join.on_role q f w).roles ≡ length w.roles
on_role_size q f w = on (slice_get w.roles q)
  where
    on : (o : Option Role) → length (elim o as (λ o. World) [
      | None ↦ w
      | Some role ↦ record w { roles = slice_set w.roles q (f role) }
    ]).roles ≡ length w.roles
    on None = refl
    on (Some r) = length-set w.roles q (f r)

-- what a task becomes
becomes : (aside : ℕ → Type 0) (q : ℕ) (f : Task → Task) (w : World) (roles : List Role) (memory : Memory)
    → ((t : Task) → IsInOrder (holding_at roles q) memory (aside q) (f t)) → EachInOrder aside w.tasks roles memory
    → EachInOrder aside (on_task q f w).tasks roles memory
becomes aside q f w roles memory order all = on (slice_get w.tasks q)
  where
    on : (o : Option Task) → EachInOrder aside (elim o as (λ o. World)
        [ None ↦ w | Some task ↦ record w { tasks = slice_set w.tasks q (f task) } ]).tasks roles memory
    on None = all
    on (Some t) = all_set aside w.tasks roles memory q (f t) (order t) (λ p u differ at. all p u at)

-- a mode that enables is not one that disables
still_enables : (mode : Mode) (b : Bool) → Enables mode → Disables (ready_or mode b) → ⊥
still_enables mode b enables disables =
    let is : ready_or (Enabling enables.0) b ≡ Disabling disables.0 =
    sym (ap (λ (m : Mode). ready_or m b) enables.1) ∙ disables.1 in cc

-- bytes of a word that pass
word_byte : (test : ℕ → Bool) (place x : ℕ) → word_passes test place ≡ true → InWord place x → test x ≡ true
word_byte test place x passes inside =
    let a = and_parts _ _ passes in
    let b = and_parts _ _ a.0 in
    let c = and_parts _ _ b.0 in
    elim (cases_eq x (place + 3)) [
      | inl last ↦ ap test last ∙ a.1
      | inr no_last ↦ elim (cases_eq x (place + 2)) [
        | inl third ↦ ap test third ∙ b.1
        | inr no_third ↦ elim (cases_eq x (place + 1)) [
          | inl second ↦ ap test second ∙ c.1
          | inr no_second ↦ ap test (first_of place x inside no_last no_third no_second) ∙ c.0
        ]
      ]
    ]

scheduling_byte : (test : ℕ → Bool) (workspace x : ℕ)
    → list_all (word_passes test) (scheduling_places workspace) ≡ true → IsSchedulingPlace workspace x → test x ≡ true
scheduling_byte test workspace x passes there = at there.0 there.1 there.2
  where
    at : (k : ℕ) → k < 3 → InWord (place_of (scheduling_word workspace k)) x → test x ≡ true
    at zero low inside = word_byte test _ x (and_parts _ _ passes).0 inside
    at (suc zero) low inside = word_byte test _ x (and_parts _ _ (and_parts _ _ passes).1).0 inside
    at (suc (suc zero)) low inside =
        word_byte test _ x (and_parts _ _ (and_parts _ _ (and_parts _ _ passes).1).1).0 inside
    at (suc (suc (suc k))) low inside = absurd (omega (arith, low))

module _ (h : Here) (w : World) (runs : w.queue.running ≡ Some h.process)
    (there : slice_get w.tasks h.process ≡ Some h.from) (g : Ground w) where
  abbrev hold : Holding
  hold = holding_at w.roles h.process

  -- what no process reaches has stayed, and a process that has not ended holds what it did
  abbrev Steady : Memory → Type 0
  Steady memory = (x : ℕ) → (Reaches w x → ⊥) → byte_at memory x ≡ byte_at w.memory x

  abbrev HoldOn : List Role → Type 0
  HoldOn roles = (q : ℕ) (t : Task) → slice_get w.tasks q ≡ Some t → h.process ≢ q → (t.condition ≡ Ended → ⊥)
      → holding_at roles q ≡ holding_at w.roles q

  mine : IsInOrder hold w.memory (Aside w h.process) h.from
  mine = g.all h.process h.from there

  ready : h.from.condition ≡ Ready
  ready = running_is_ready h w runs there g.keeps

  -- no process reaches what another one keeps
  unreached : (q : ℕ) (t : Task) (x : ℕ) → h.process ≢ q → slice_get w.tasks q ≡ Some t
      → may_write (holding_at w.roles q) x ≡ true → (InOwn t x → ⊥) → Reaches w x → ⊥
  unreached q t x differ at own elsewhere (by_runner p also reached) =
      let same = same_some w.queue.running h.process p runs also in
      apart_at w.roles w.channels g.apart h.process q x differ
      (subst (λ n. may_write (holding_at w.roles n) x ≡ true) (sym same) reached) own
  unreached q t x differ at own elsewhere (by_message p task e here is inside) = elim (cases_eq p q) [
    | inl same ↦
        let one = same_some (slice_get w.tasks q) task t (subst (λ n. slice_get w.tasks n ≡ Some task) same here) at in
        elsewhere (e, on_channel (ap (λ (y : Task). y.condition) (sym one) ∙ is), inside)
    | inr other ↦ apart_at w.roles w.channels g.apart p q x other
        ((g.all p task here).buffer.writable e x (on_channel is) inside) own
  ]
  unreached q t x differ at own elsewhere (by_arrival a) = not_arriving w g q t x at own elsewhere a

  -- the others are as they were
  others : (roles : List Role) (memory : Memory) → HoldOn roles → Steady memory → (q : ℕ) (t : Task) → h.process ≢ q
      → slice_get w.tasks q ≡ Some t → IsInOrder (holding_at roles q) memory ⊤ t
  others roles memory held steady q t differ at = elim (ended_or t.condition) [
    | inl over ↦ over_in_order (holding_at roles q) memory ⊤ t
        (λ inside. elim (before.modes inside) [
          | inl is ↦ let z : Ended ≡ Ready = sym over ∙ is in cc
          | inr is ↦ let z : Ended ≡ Alternating = sym over ∙ is in cc
        ]) (λ live. subst IsLive over live) (ap message_of over)
    | inr alive ↦ still_in_order (holding_at w.roles q) (holding_at roles q) w.memory memory ⊤ t
        (held q t at differ alive)
        (λ x own elsewhere. steady x (unreached q t x differ at own elsewhere)) before
  ]
    where
      before : IsInOrder (holding_at w.roles q) w.memory ⊤ t
      before = weaker (holding_at w.roles q) w.memory (Aside w q) ⊤ t
          (λ any also. differ (same_some w.queue.running h.process q runs also)) (g.all q t at)

  set : (aside : ℕ → Type 0) (u : Task) (roles : List Role) (memory : Memory) → HoldOn roles → Steady memory
      → IsInOrder (holding_at roles h.process) memory (aside h.process) u
      → EachInOrder aside (slice_set w.tasks h.process u) roles memory
  set aside u roles memory held steady order = all_set aside w.tasks roles memory h.process u order
      (λ q t differ at. weaker (holding_at roles q) memory ⊤ (aside q) t (λ a. tt)
      (others roles memory held steady q t differ at))

  all_hold : HoldOn w.roles
  all_hold q t at differ alive = refl

  -- ---- it goes on

  goes_on : (u : Task) (memory : Memory) → u.condition ≡ Ready → Steady memory
      → (IsInside u.mode → HasWords hold memory u.registers.workspace)
      → (Disables u.mode → HasSelection hold memory u.registers.workspace)
      → EachInOrder (Aside w) (slice_set w.tasks h.process u) w.roles memory
  goes_on u memory is steady words selection = set (Aside w) u w.roles memory all_hold steady
      (runs_in_order hold memory (Aside w h.process) u is (λ aside. aside runs) words selection)

  goes_outside : (u : Task) (memory : Memory) → u.condition ≡ Ready → Steady memory → (IsInside u.mode → ⊥)
      → EachInOrder (Aside w) (slice_set w.tasks h.process u) w.roles memory
  goes_outside u memory is steady outside = goes_on u memory is steady (λ inside. absurd (outside inside))
      (λ disables. absurd (outside (inr disables)))

  -- the words are where they were, and blank
  same_words : (l : Local) → IsSame (local_here h.from w) l → IsInside h.from.mode
      → HasWords hold l.memory l.registers.workspace
  same_words l same inside = subst (HasWords hold l.memory) (sym same.workspace)
      (subst (λ (y : Memory). HasWords hold y h.from.registers.workspace) (sym same.memory) (mine.words (inl inside)))

  same_selection : (l : Local) → IsSame (local_here h.from w) l → Disables h.from.mode
      → HasSelection hold l.memory l.registers.workspace
  same_selection l same disables = subst (HasSelection hold l.memory) (sym same.workspace)
      (subst (λ (y : Memory). HasSelection hold y h.from.registers.workspace) (sym same.memory)
      (mine.selection disables))

  -- the word at the workspace was taken
  selects_words : (l : Local) → Selects hold (local_here h.from w) l → IsInside h.from.mode
      → HasWords hold l.memory l.registers.workspace
  selects_words l x inside = subst (HasWords hold l.memory) (sym x.workspace)
      (subst (λ (y : Memory). HasWords hold y h.from.registers.workspace) (sym x.memory)
      (words_with hold w.memory h.from.registers.workspace (place_of h.from.registers.workspace)
      (mine.words (inl inside))))

  selects_selection : (l : Local) → Selects hold (local_here h.from w) l
      → HasSelection hold l.memory l.registers.workspace
  selects_selection l x = subst (HasSelection hold l.memory) (sym x.workspace)
      (subst (λ (y : Memory). HasSelection hold y h.from.registers.workspace) (sym x.memory)
      (selection_taken hold w.memory h.from.registers.workspace x.own))

  -- ---- it waits

  abbrev waiting : Local → Condition → Task
  waiting l c = record h.from { registers = between h.next l.registers; condition = c }

  waits : (test : ℕ → Bool) (l : Local) (e : Exchange) (c : Condition) (memory : Memory)
      → Messages hold test l e → h.from.mode ≡ Plain → message_of c ≡ Some e
      → ((q : ℕ) → test q ≡ true → may_read hold q ≡ true)
      → ((q : ℕ) (f : Exchange) → IsReceiving c f → test q ≡ true → may_write hold q ≡ true)
      → HasWords hold memory l.registers.workspace → Steady memory
      → EachInOrder Anyone (slice_set w.tasks h.process (waiting l c)) w.roles memory
  waits test l e c memory x plain is read write words steady =
      set Anyone (waiting l c) w.roles memory all_hold steady
      (waits_in_order hold memory ⊤ (waiting l c) (plain_is_outside h.from.mode plain)
      (λ waits. let z : None ≡ Some e = sym (ap message_of waits) ∙ is in cc) words
      (record { stack = x.gives.stack; operand = refl })
      (has_buffer hold (g.data_alone h.process) test l e x c is read write))

  -- everyone is in order, whoever runs now
  anyone : (v : World) → AllInOrder Anyone v → AllInOrder (Aside v) v
  anyone v all = all_weaker Anyone (Aside v) v.tasks v.roles v.memory (λ q a. tt) all

  -- the first byte of a message is not one of the words that scheduling takes
  first_byte : (l : Local) (e : Exchange) (byte : ℕ) → Messages hold (may_write hold) l e
      → HasWords hold (with_byte l.memory (place_of e.address) (Some byte)) l.registers.workspace
  first_byte l e byte x q at = record {
    own = (x.gives.words q at).own;
    undefined = byte_at-with_byte_other l.memory (place_of e.address) q (Some byte)
        (λ same. is_beside hold (g.data_alone h.process) (may_write hold) l e x q
        (let some = x.some in (omega (arith, same), omega (arith, same, some))) at)
        ∙ (x.gives.words q at).undefined;
  }

  -- ---- a message meets its other side

  live_partner : (u : Task) (other : ℕ) (c : Condition) → u.condition ≡ Ready → condition_of w other ≡ c → IsLive c
      → (t : Task) → slice_get (slice_set w.tasks h.process u) other ≡ Some t → IsLive t.condition
  live_partner u other c is waits live t at = elim (set_either w.tasks h.process u other t at) [
    | inl new ↦ subst IsLive (sym (ap (λ (y : Task). y.condition) new.1 ∙ is)) tt
    | inr old ↦ subst IsLive (sym waits ∙ ap (λ (o : Option Task). elim o as (λ o. Condition)
        [ None ↦ Ready | Some task ↦ task.condition ]) old.1) live
  ]

  meets : (u : Task) (other : ℕ) (c : Condition) (cells : List (Option Channel)) (memory : Memory)
      → u.condition ≡ Ready → (IsInside u.mode → ⊥) → condition_of w other ≡ c → IsLive c
      → let before : World = record w {
        memory = memory;
        tasks = slice_set w.tasks h.process u;
        channels = cells;
      } in Steady (wake other before).memory → AllInOrder (Aside (wake other before)) (wake other before)
  meets u other c cells memory is outside waits live steady =
      let before : World = record w {
        memory = memory;
        tasks = slice_set w.tasks h.process u;
        channels = cells;
      } in
      let v = wake other before in
      all_weaker (Aside w) (Aside v) v.tasks v.roles v.memory (λ q aside e. aside (wake_running other before ∙ e))
      (all_woken (Aside w) other before (live_partner u other c is waits live)
      (goes_outside u memory is (subst Steady (wake_only other before).memory steady) outside))

  -- ---- what is selected

  chosen_either : (P : World → Type 0) (b : Bool) (distance : ℤ) (l : Local)
      → P (in_mode h (Disabling (Some distance)) (with_a_alone (Some (pos 1)) l) w)
      → P (continued h h.next (with_a_alone (Some (pos 0)) l) w) → P (chosen h b distance l w)
  chosen_either P b distance l is_chosen is_not = on (selected h.from.mode b distance)
    where
      on : (b : Bool) → P (if b
          then in_mode h (Disabling (Some distance)) (with_a_alone (Some (pos 1)) l) w
          else continued h h.next (with_a_alone (Some (pos 0)) l) w)
      on true = is_chosen
      on false = is_not

  chooses : (b : Bool) (distance : ℤ) (l : Local) → Selects hold (local_here h.from w) l → Disables h.from.mode
      → Steady (chosen h b distance l w).memory → AllInOrder (Aside w) (chosen h b distance l w)
  chooses b distance l x disables steady =
      chosen_either (λ (v : World). EachInOrder (Aside w) v.tasks v.roles v.memory) b distance l
      (goes_on _ l.memory ready still (λ inside. selects_words l x (inr disables)) (λ d. selects_selection l x))
      (goes_on _ l.memory ready still (λ inside. selects_words l x (inr disables)) (λ d. selects_selection l x))
    where
      still : Steady l.memory
      still = chosen_either (λ (v : World). Steady v.memory → Steady l.memory) b distance l (λ s. s) (λ s. s) steady

  chosen_queue : (b : Bool) (distance : ℤ) (l : Local) → (chosen h b distance l w).queue ≡ w.queue
  chosen_queue b distance l = chosen_either (λ (v : World). v.queue ≡ w.queue) b distance l refl refl

  still_aside : (v : World) → v.queue ≡ w.queue → AllInOrder (Aside w) v → AllInOrder (Aside v) v
  still_aside v same all = all_weaker (Aside w) (Aside v) v.tasks v.roles v.memory
      (λ q aside e. aside (ap (λ (y : Queue). y.running) same ∙ e)) all

  -- ---- a branch starts

  -- the words below its workspace are its own, and taken
  child_in_order : (plan : Plan) (found : Found) (workspace : ℕ) (l : Local) → LiesIn (length w.memory) plan.rest
      → share_is_there (length w.memory) plan workspace found.branch ≡ true
      → IsInOrder (holding_of h.contents (length w.memory) (share_by plan found.branch))
      (without_words (scheduling_addresses workspace) l.memory) ⊤ (new_task found.branch workspace)
  child_in_order plan found workspace l lies share =
      waits_in_order given after ⊤ (new_task found.branch workspace) (plain_is_outside Plain refl)
      (λ waits. let z : Ready ≡ Alternating = waits in cc) words
      (record { stack = refl; operand = refl }) (no_buffer given workspace Ready refl)
    where
      given : Holding
      given = holding_of h.contents (length w.memory) (share_by plan found.branch)

      after : Memory
      after = without_words (scheduling_addresses workspace) l.memory

      words : HasWords given after workspace
      words x at =
          let both = and_parts _ _ (scheduling_byte (λ place. may_write plan.rest place
          && writes_place (share_by plan found.branch) place) workspace x
          (and_parts _ _ (and_parts _ _ share).0).0 at) in
          let low = lies x (written_is_read plan.rest x both.0) in
          record {
            own = runs_have (writes_place (share_by plan found.branch)) 0 (length w.memory) x
                (record { above = omega arith; below = omega (arith, low); passes = both.1 });
            undefined = blank_scheduled l.memory workspace x (inl at);
          }

  starts : (plan : Plan) (found : Found) (workspace : ℕ) (l : Local) (cells : List (Option Channel))
      → LiesIn (length w.memory) plan.rest → share_is_there (length w.memory) plan workspace found.branch ≡ true
      → let v = started h plan found workspace l (record w { channels = cells }) in
      Steady v.memory → HoldOn v.roles → AllInOrder (Aside v) v
  starts plan found workspace l cells lies share steady held q t at =
      elim (got_either given.tasks child q t at) [
        | inl old ↦ elim (set_either w.tasks h.process opener q t
            (subst (λ (ts : List Task). slice_get ts q ≡ Some t) only.tasks old)) [
              | inl itself ↦ outside_in_order (holding_at v.roles q) v.memory (Aside v q) t
                  (ap (λ (y : Task). y.condition) itself.1 ∙ ready)
                  (λ aside. aside (subst (λ n. v.queue.running ≡ Some n) itself.0 running))
                  (starting_is_outside t.mode (ap (λ (y : Task). y.mode) itself.1))
              | inr other ↦ weaker (holding_at v.roles q) v.memory ⊤ (Aside v q) t (λ a. tt)
                  (others v.roles v.memory held steady q t other.0 other.1)
            ]
        | inr last ↦ weaker (holding_at v.roles q) v.memory ⊤ (Aside v q) t (λ a. tt)
            (subst (IsInOrder (holding_at v.roles q) v.memory ⊤) (sym last.1)
            (subst (λ (g : Holding). IsInOrder g v.memory ⊤ child) (sym (new_holding q last.0))
            (subst (λ (y : Memory). IsInOrder own y ⊤ child) (sym only.quiet.memory)
            (child_in_order plan found workspace l lies share))))
      ]
    where
      child : Task
      child = new_task found.branch workspace

      opener : Task
      opener = record h.from { registers = between h.next l.registers; mode = Starting }

      own : Holding
      own = holding_of h.contents (length w.memory) (share_by plan found.branch)

      v : World
      v = started h plan found workspace l (record w { channels = cells })

      before : World
      before = record w {
        memory = without_words (scheduling_addresses workspace) l.memory;
        tasks = slice_set w.tasks h.process opener;
        channels = cells;
      }

      j : Join
      j = join_after (length w.memory) plan found (length w.tasks)

      given : World
      given = join.on_role h.process (with_opened (Some j)) before

      only : OnlyRoles before given
      only = on_role_only h.process (with_opened (Some j)) before

      running : v.queue.running ≡ Some h.process
      running = on_role_running h.process (with_opened (Some j)) before ∙ runs

      sizes : length given.tasks ≡ length given.roles
      sizes = ap (λ (ts : List Task). length ts) only.tasks ∙ (length-set w.tasks h.process opener
          ∙ (sym g.keeps.rest.size ∙ sym (on_role_size h.process (with_opened (Some j)) before)))

      new_holding : (q : ℕ) → q ≡ length given.tasks → holding_at v.roles q ≡ own
      new_holding q is = subst (λ n. holding_at v.roles n ≡ own) (sym (is ∙ sizes))
          (field_last parts.held nothing given.roles (branch_role h.process own))

  -- ---- a member of a join ends

  joins : (o : ℕ) (j : Join) (par : Par) (u : Task) (v : World) → v.tasks ≡ slice_set w.tasks h.process u
      → u.condition ≡ Ended → u.mode ≡ Plain → let after = member_joined h o j par v in
      Steady after.memory → HoldOn after.roles → AllInOrder (Aside after) after
  unfolding dispatch
  joins o j par u v tasks over plain =
      joined_either (λ (after : World). Steady after.memory → HoldOn after.roles → AllInOrder (Aside after) after) h o j
      par v
      (λ none steady held.
      let shut = on_role_only o (with_opened None) (on_task o (closed_task j par) gone) in
      let v = join.closed o j par gone in
      subst (λ (ts : List Task). EachInOrder (Aside v) ts v.roles v.memory) (sym shut.tasks)
      (becomes (Aside v) o (closed_task j par) gone v.roles v.memory
      (λ t. outside_in_order (holding_at v.roles o) v.memory (Aside v o) (closed_task j par t) refl
      (λ aside. aside refl)
      (plain_is_outside Plain refl)) (ended_all (Aside v) v.roles v.memory held steady)))
      (λ some steady held.
      let v = dispatch h.pick (leave gone) in
      ended_all (Aside v) v.roles v.memory held steady)
    where
      gone : World
      gone = member_gone h o j v

      ended_all : (aside : ℕ → Type 0) (roles : List Role) (memory : Memory) → HoldOn roles → Steady memory
          → EachInOrder aside gone.tasks roles memory
      ended_all aside roles memory held steady =
          subst (λ (ts : List Task). EachInOrder aside ts roles memory)
          (sym ((on_role_only o (with_opened (Some (without h.process j))) v).tasks ∙ tasks))
          (set aside u roles memory held steady
          (over_in_order (holding_at roles h.process) memory (aside h.process) u (plain_is_outside u.mode plain)
          (λ live. subst IsLive over live) (ap message_of over)))

  -- ---- by the way in which the world has moved

  sends_nothing : (e f : Exchange) → IsReceiving (Sending e) f → ⊥
  sends_nothing e f (on_channel is) = cc
  sends_nothing e f (on_link k done is at) = cc

  -- no output link is an input link
  sends_outside : (e f : Exchange) (k : ℕ) → output_link e.channel ≡ Some k → IsReceiving (OnLink e 0) f → ⊥
  sends_outside e f k on (on_channel is) = cc
  sends_outside e f k on (on_link n done is at) =
      let same : e ≡ f = cc in
      let word = link_found (output_word 0) e.channel k on in
      let low = link_low (output_word 0) e.channel k on in
      let input : e.channel ≡ input_word n = ap (λ (y : Exchange). y.channel) same ∙ at in
      omega (arith, word, low, input)

  pub moved : (o : Outcome) (v : World) → Moved h w o v → Leaves (site_of h w) (local_here h.from w) o
      → Fits h.from.mode o → Steady v.memory → HoldOn v.roles → AllInOrder (Aside v) v
  unfolding dispatch
  moved o v (turns.it_goes l) leaves fits steady held =
      goes_on _ l.memory ready steady (λ inside. same_words l (leaves inside) inside)
      (λ d. same_selection l (leaves (inr d)) d)
  moved o v (turns.it_jumps to l) leaves fits steady held =
      goes_outside _ l.memory ready steady (plain_is_outside h.from.mode leaves.0)
  moved o v (turns.it_is_sliced to l) leaves fits steady held =
      let u = record h.from { registers = between to l.registers } in
      set (Aside v) u w.roles l.memory all_hold steady
      (waits_in_order hold l.memory (Aside v h.process) u (plain_is_outside h.from.mode leaves.0)
      (λ waits. let z : Ready ≡ Alternating = sym ready ∙ waits in cc) leaves.1.words
      (record { stack = leaves.1.stack; operand = refl })
      (no_buffer hold l.registers.workspace u.condition (ap message_of ready)))
  moved o v (turns.it_lands to l) leaves fits steady held =
      goes_outside _ l.memory ready steady (plain_is_outside h.from.mode leaves)
  moved o v (turns.it_stops l) leaves fits steady held =
      set (Aside v) _ w.roles l.memory all_hold steady
      (over_in_order hold l.memory (Aside v h.process) _ (plain_is_outside h.from.mode fits) (λ live. live) refl)
  moved o v (turns.receives_first e l c inside here none) leaves fits steady held =
      anyone v (waits (may_write hold) l e (Receiving e) l.memory leaves fits refl (written_is_read hold)
      (λ q f is own. own) leaves.gives.words steady)
  moved o v (turns.receives_from e l c other sent inside here who partner same) leaves fits steady held =
      meets (record h.from { registers = between h.next l.registers }) other (Sending sent) _ _ ready
      (plain_is_outside h.from.mode fits) partner tt steady
  moved o v (turns.receives_none e l k link on here none) leaves fits steady held =
      anyone v (waits (may_write hold) l e (OnLink e 0) l.memory leaves fits refl (written_is_read hold)
      (λ q f is own. own) leaves.gives.words steady)
  moved o v (turns.receives_last e l k link byte on here kept one) leaves fits steady held =
      goes_outside _ _ ready steady (plain_is_outside h.from.mode fits)
  moved o v (turns.receives_one e l k link byte on here kept more) leaves fits steady held =
      anyone v (waits (may_write hold) l e (OnLink e 1) v.memory leaves fits refl (written_is_read hold)
      (λ q f is own. own) (first_byte l e byte leaves) steady)
  moved o v (turns.sends_first e l c inside here none) leaves fits steady held =
      let before = waits_at h (Sending e) e.channel c l w in
      anyone v (all_roused Anyone c.enabled before
      (waits (may_read hold) l e (Sending e) l.memory leaves fits refl (λ q read. read)
      (λ q f is read. absurd (sends_nothing e f is)) leaves.gives.words
      (subst Steady (rouse_only c.enabled before).memory steady)))
  moved o v (turns.sends_to e l c other wanted inside here who partner same) leaves fits steady held =
      meets (record h.from { registers = between h.next l.registers }) other (Receiving wanted) _ _ ready
      (plain_is_outside h.from.mode fits) partner tt steady
  moved o v (turns.starts_first target workspace l found is none tests) leaves fits steady held =
      let plan = plan_of h w found in
      starts plan found workspace (opened h plan l w).0 _
      (less_lies (length w.memory) hold _)
      (first_tests h.contents w.memory hold plan found workspace tests).0.share steady held
  moved o v (turns.starts_later target workspace l found j is is_open same tests) leaves fits steady held =
      let plan = later_plan h.contents j found.par in
      starts plan found workspace l w.channels (rest_lies h w g.lies h.process j is_open)
      (later_tests (length w.memory) plan found workspace tests).share steady held
  moved o v (turns.joins_own block l j par is row whole) leaves fits steady held =
      joins h.process j par _ (ended h l w) refl refl refl steady held
  moved o v (turns.joins_opener block l opener j par none by is row same) leaves fits steady held =
      joins opener j par _ (given_back h (ended h l w))
      (on_role_only h.process (λ role. record role { own = nothing }) (ended h l w)).tasks refl refl steady held
  moved o v (turns.it_begins l) leaves fits steady held =
      goes_on _ l.memory ready steady (λ inside. leaves)
      (λ d. absurd (let z : Enabling false ≡ Disabling d.0 = d.1 in cc))
  moved o v (turns.it_enables guard address l s holds (turns.on_channel c inside here) once) leaves fits steady held =
      goes_on _ l.memory ready steady (λ inside. same_words l leaves (inl fits))
      (λ d. absurd (still_enables h.from.mode _ fits d))
  moved o v (turns.it_enables guard address l s holds (turns.on_link k link on here) once) leaves fits steady held =
      goes_on _ l.memory ready steady (λ inside. same_words l leaves (inl fits))
      (λ d. absurd (still_enables h.from.mode _ fits d))
  moved o v (turns.it_enables_nothing guard address l off) leaves fits steady held =
      goes_on _ l.memory ready steady (λ inside. same_words l leaves inside) (λ d. same_selection l leaves d)
  moved o v (turns.it_enables_a_skip guard l) leaves fits steady held =
      goes_on _ l.memory ready steady (λ inside. same_words l leaves (inl fits))
      (λ d. absurd (still_enables h.from.mode guard fits d))
  moved o v (turns.it_is_ready l is) leaves fits steady held =
      goes_on _ l.memory ready steady (λ inside. leaves.gives.words) (λ d. leaves.selection)
  moved o v (turns.it_waits l is) leaves fits steady held =
      set (Aside v) _ w.roles l.memory all_hold steady (record {
        modes = λ inside. inr refl;
        unselected = λ waits. refl;
        words = λ either. leaves.gives.words;
        selection = λ d. leaves.selection;
        rest = λ live aside. record { stack = leaves.gives.stack; operand = refl };
        buffer = no_buffer hold l.registers.workspace Alternating refl;
      })
  moved o v (turns.it_disables guard address distance l s holds (turns.on_channel c inside here) own) leaves fits steady
      held =
      still_aside v (chosen_queue _ distance l) (chooses _ distance l leaves fits steady)
  moved o v (turns.it_disables guard address distance l s holds (turns.on_link k link on here) own) leaves fits steady
      held =
      still_aside v (chosen_queue _ distance l) (chooses _ distance l leaves fits steady)
  moved o v (turns.it_disables_nothing guard address distance l off) leaves fits steady held =
      still_aside v (chosen_queue false distance l) (chooses false distance l leaves fits steady)
  moved o v (turns.it_disables_a_skip guard distance l) leaves fits steady held =
      still_aside v (chosen_queue guard distance l) (chooses guard distance l leaves fits steady)
  moved o v (turns.it_ends_alternation to l none) leaves fits steady held =
      goes_outside _ l.memory ready steady (plain_is_outside Plain refl)

  pub ends : (o : Outcome) (t : Turn) → TurnsInto h w o t → Leaves (site_of h w) (local_here h.from w) o
      → Fits h.from.mode o → Steady t.world.memory → HoldOn t.world.roles → AllInOrder (Aside t.world) t.world
  unfolding dispatch
  ends o t (turns.at_fault refused) leaves fits steady held = g.all
  ends o t (turns.has_run {after = v} x) leaves fits steady held = moved o v x leaves fits steady held
  ends o t (turns.has_emitted e l k on same) leaves fits steady held =
      anyone t.world (waits (may_read hold) l e (OnLink e 0) l.memory leaves fits refl (λ q read. read)
      (λ q f is read. absurd (sends_outside e f k on is)) leaves.gives.words steady)

  -- a prefix
  pub prefixed : (r : Registers) → r.workspace ≡ h.from.registers.workspace
      → EachInOrder (Aside w) (slice_set w.tasks h.process (record h.from { registers = r })) w.roles w.memory
  prefixed r same = goes_on (record h.from { registers = r }) w.memory ready (λ x never. refl)
      (λ inside. subst (HasWords hold w.memory) (sym same) (mine.words (inl inside)))
      (λ d. subst (HasSelection hold w.memory) (sym same) (mine.selection d))
