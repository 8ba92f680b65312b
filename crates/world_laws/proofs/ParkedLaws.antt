-- Every process is in order in every world: what is so of those that are parked, and of those in an alternation.
use Rattle.std.proofs.Common.{◌≡◌, ◌≢◌, ℕ, zero, suc, ◌+◌, Bool, true, false, if◌then◌else◌, inl, inr, List, Option}
use Rattle.std.proofs.Common.{Some, None, refl, sym, ap, ◌∙◌, subst, slice_get, arith, [], ◌∷◌}
use Rattle.std.specs.Prelude.{⊤, ◌%◌, ◌^◌, ◌==◌, slice_set}
use Rattle.small_laws.proofs.Options.{same_some}
use Rattle.prefix_decoder.specs.Functions.{nibble}
use Rattle.prefix_decoder.specs.Operand.{with_nibble}
use Rattle.module_format.specs.Contents.{Contents}
use Rattle.module_format.specs.Keeping.{Keeps}
use Rattle.machine_state.specs.declared.event.Event.{Event}
use Rattle.machine_state.specs.declared.event.Event.TheVariants.{Step, Arrive, Acknowledge}
use Rattle.machine_state.specs.declared.link.InputLink.{InputLink}
use Rattle.machine_state.specs.declared.process.Channel.{Channel}
use Rattle.machine_state.specs.declared.process.Condition.{Condition}
use Rattle.machine_state.specs.declared.process.Condition.TheVariants.{Ready, OnLink, Alternating, Ended}
use Rattle.machine_state.specs.declared.process.Exchange.{Exchange}
use Rattle.machine_state.specs.declared.process.Mode.{Mode}
use Rattle.machine_state.specs.declared.process.Mode.TheVariants.{Enabling}
use Rattle.machine_state.specs.declared.process.Task.{Task}
use Rattle.machine_state.specs.Endings.{Happened, local_here}
use Rattle.machine_state.specs.Endings as turns
use Rattle.machine_state.specs.Happens.{site_of, turn, world_after}
use Rattle.machine_state.specs.Holding.{Holding}
use Rattle.machine_state.specs.Memory.{Memory, place_of, scheduling_word, byte_at, with_byte}
use Rattle.machine_state.specs.Moves.{on_task, wake, rouse, rouse_enabling, rouse_task, dispatch, picked, fill}
use Rattle.machine_state.specs.Moves.{link_index, with_input, with_output}
use Rattle.machine_state.specs.Ownership.{IsAmong}
use Rattle.machine_state.specs.Turn.{Turn, at_here}
use Rattle.machine_state.specs.Waiting.{WaitsOn, IsReadyAt, AllReady, IsAbsent, AllDiffer, line_of}
use Rattle.machine_state.specs.World.{World, Role, Links, Queue, holding_at, loaded, root_task, input_word}
use Rattle.machine_state.specs.World.{output_word}
use Rattle.machine_state.proofs.ApartLaws.{all_stand, format_is_small, holdings_stay_apart}
use Rattle.machine_state.proofs.Changes.{Passed, passes, running_is_ready}
use Rattle.machine_state.proofs.Changes as change
use Rattle.machine_state.proofs.EveryWorld.{every_world}
use Rattle.machine_state.proofs.Modes.{steps_fit}
use Rattle.machine_state.proofs.OthersHold.{others_hold}
use Rattle.machine_state.proofs.Reading.{byte_at-with_byte_other}
use Rattle.machine_state.proofs.Turns.{turn_happens}
use Rattle.machine_state.proofs.Waiting.{reached, filled}
use Rattle.world_laws.specs.Parked.{IsParked, IsLive, IsReceiving, on_channel, on_link, message_of}
use Rattle.world_laws.specs.Parked.{WhoIsParkedIsAtRest, ParkedWordsAreBlank, SelectionsAreBlank, WhoIsReadyIsParked}
use Rattle.world_laws.specs.Parked.{WhoWaitsIsParked, ArrivalsFollow, BuffersAreHeld, WorkspacesDiffer, HasWords}
use Rattle.world_laws.proofs.HeldNow.{apart_at, written_is_data}
use Rattle.world_laws.proofs.InsideMemory.{all_inside}
use Rattle.world_laws.proofs.ParkedSteps.{Aside, Ground, arrives_at, ends, prefixed, not_arriving, wake_running}
use Rattle.world_laws.proofs.ParkedTasks.{IsInOrder, AllInOrder, outside_in_order, still_in_order, all_weaker}
use Rattle.world_laws.proofs.ParkedTasks.{all_on_task, all_woken, all_roused}
use Rattle.world_laws.proofs.Reaching.{Reaches, stays_unreached}
use Rattle.world_laws.proofs.StepLeaves.{steps_leave, plain_is_outside}

-- ---- who runs stays

on_task_running : (q : ℕ) (f : Task → Task) (w : World) → (on_task q f w).queue.running ≡ w.queue.running
on_task_running q f w = on (slice_get w.tasks q)
  where
    on : (o : Option Task) → (elim o as (λ o. World)
        [ None ↦ w | Some task ↦ record w { tasks = slice_set w.tasks q (f task) } ]).queue.running ≡ w.queue.running
    on None = refl
    on (Some t) = refl

rouse_running : (o : Option ℕ) (w : World) → (rouse o w).queue.running ≡ w.queue.running
rouse_running None w = refl
rouse_running (Some p) w = on (slice_get w.tasks p)
  where
    on_mode : (mode : Mode) → (rouse_enabling p mode w).queue.running ≡ w.queue.running
    on_mode (Enabling is_ready) = on_task_running p (λ task. record task { mode = Enabling true }) w
    on_mode _ = refl

    on_condition : (mode : Mode) (c : Condition) → (rouse_task p mode c w).queue.running ≡ w.queue.running
    on_condition mode Alternating = wake_running p w
    on_condition mode _ = on_mode mode

    on : (o : Option Task) → (elim o as (λ o. World)
        [ None ↦ w | Some task ↦ rouse_task p task.mode task.condition w ]).queue.running ≡ w.queue.running
    on None = refl
    on (Some task) = on_condition task.mode task.condition

picked_keeps : (pick : ℕ) (queue : Queue) (q : ℕ) → queue.running ≡ Some q → (picked pick queue).running ≡ Some q
picked_keeps pick queue q runs = on queue.running runs _ ∙ runs
  where
    on : (o : Option ℕ) → o ≡ Some q → (other : Queue)
        → (elim o as (λ o. Queue) [ Some p ↦ queue | None ↦ other ]).running ≡ queue.running
    on None is other = absurd (cc)
    on (Some p) is other = refl

-- whoever is taken to run
dispatched : (w v : World) (pick : ℕ) → v.queue.running ≡ w.queue.running → AllInOrder (Aside w) v
    → AllInOrder (Aside (dispatch pick v)) (dispatch pick v)
unfolding dispatch
dispatched w v pick same all = all_weaker (Aside w) (Aside (dispatch pick v)) v.tasks v.roles v.memory
    (λ q aside e. aside (picked_keeps pick v.queue q (same ∙ e))) all

-- a process that waits on a link has one byte more
filled_in_order : (h : Holding) (memory : Memory) (aside : Type 0) (t : Task) (e : Exchange) (done : ℕ)
    → t.condition ≡ OnLink e done → IsInOrder h memory aside t
    → IsInOrder h memory aside (record t { condition = OnLink e (done + 1) })
filled_in_order h memory aside t e done is order = record {
  modes = λ inside. elim (order.modes inside) [
    | inl ready ↦ absurd (let z : OnLink e done ≡ Ready = sym is ∙ ready in cc)
    | inr waits ↦ absurd (let z : OnLink e done ≡ Alternating = sym is ∙ waits in cc)
  ];
  unselected = λ waits. absurd (let z : OnLink e (done + 1) ≡ Alternating = waits in cc);
  words = λ either. order.words (elim either [ inl inside ↦ inl inside | inr idle ↦ inr (live, idle.1) ]);
  selection = order.selection;
  rest = λ more idle. order.rest live idle;
  buffer = record {
    readable = λ f x at inside. order.buffer.readable f x (ap message_of is ∙ at) inside;
    writable = λ f x at inside. order.buffer.writable f x (received f at) inside;
    beside = λ f x at inside there. order.buffer.beside f x (ap message_of is ∙ at) inside there;
  };
}
  where
    live : IsLive t.condition
    live = subst IsLive (sym is) tt

    received : (f : Exchange) → IsReceiving (OnLink e (done + 1)) f → IsReceiving t.condition f
    received f (on_channel at) = absurd (cc)
    received f (on_link k more at word) =
        let same : e ≡ f = cc in
        on_link k done (is ∙ ap (λ (x : Exchange). OnLink x done) same) word

-- who waits on a link is live
waiter_is_live : (w : World) (p word : ℕ) → WaitsOn w.tasks p word → (t : Task) → slice_get w.tasks p ≡ Some t
    → IsLive t.condition
waiter_is_live w p word x t at =
    let same = same_some (slice_get w.tasks p) x.task t x.here at in
    subst IsLive (sym (ap (λ (y : Task). y.condition) (sym same) ∙ x.waits)) tt

-- ---- every event

module _ (m : Contents) (w : World) (g : Ground w) where
  -- what who has not ended holds
  hold_on : (ts : List Task) (rs : List Role) (cs : List (Option Channel)) (ls : Links) → Passed m w ts rs cs ls
      → (p : ℕ)
      → w.queue.running ≡ Some p → (q : ℕ) (t : Task) → slice_get w.tasks q ≡ Some t → p ≢ q
      → (t.condition ≡ Ended → ⊥)
      → holding_at rs q ≡ holding_at w.roles q
  hold_on ts rs cs ls (change.it_runs n pick task also here x) p runs q t at differ alive =
      (others_hold (at_here m n task pick) w g.keeps ts rs cs ls x).others q t at
      (λ same. differ (same_some w.queue.running p n runs also ∙ same)) alive
  hold_on ts rs cs ls change.nothing_happens p runs q t at differ alive = refl
  hold_on ts rs cs ls (change.fills_last n k link here waiting x) p runs q t at differ alive = refl
  hold_on ts rs cs ls (change.fills_more n k x) p runs q t at differ alive = refl
  hold_on ts rs cs ls (change.keeps_byte k byte link tasks here empty roused) p runs q t at differ alive = refl
  hold_on ts rs cs ls (change.acknowledges n k link here waiting x) p runs q t at differ alive = refl

  -- a byte arrives for a process that waits
  taken : (p k byte : ℕ) (link : InputLink) (x : WaitsOn w.tasks p (input_word k))
      → let v = fill p k byte link w in AllInOrder (Aside (dispatch 0 v)) (dispatch 0 v)
  taken p k byte link x = subst (λ (v : World). AllInOrder (Aside (dispatch 0 v)) (dispatch 0 v))
      (sym (filled w p (input_word k) k byte link x)) (on (x.done + 1 == x.exchange.length))
    where
      place : ℕ
      place = place_of ((x.exchange.address + x.done) % 2 ^ 32)

      with_it : World
      with_it = record w { memory = with_byte w.memory place (Some byte) }

      all_with : AllInOrder (Aside w) with_it
      all_with q t at =
          still_in_order (holding_at w.roles q) (holding_at w.roles q) w.memory with_it.memory (Aside w q) t
          refl (λ y own elsewhere. byte_at-with_byte_other w.memory place y (Some byte) (λ same.
          not_arriving w g q t y at own elsewhere (record { process = p; link = k; waits = x; is = same })))
          (g.all q t at)

      on : (b : Bool) → let v = if b
          then wake p (with_input k (record link { waiting = None }) with_it)
          else on_task p (λ task. record task { condition = OnLink x.exchange (x.done + 1) }) with_it
          in AllInOrder (Aside (dispatch 0 v)) (dispatch 0 v)
      on true =
          let v = with_input k (record link { waiting = None }) with_it in
          dispatched w (wake p v) 0 (wake_running p v)
          (all_woken (Aside w) p v (waiter_is_live w p (input_word k) x) all_with)
      on false =
          let f : Task → Task = λ task. record task { condition = OnLink x.exchange (x.done + 1) } in
          dispatched w (on_task p f with_it) 0 (on_task_running p f with_it)
          (all_on_task (Aside w) p f with_it (λ t at order.
          filled_in_order (holding_at w.roles p) with_it.memory (Aside w p) t x.exchange x.done
          (ap (λ (y : Task). y.condition) (same_some (slice_get w.tasks p) t x.task at x.here) ∙ x.waits) order)
          all_with)

  abbrev Still : Event → Turn → Type 0
  Still (Step slice pick) t = (x : ℕ) → (Reaches w x → ⊥) → byte_at t.world.memory x ≡ byte_at w.memory x
  Still (Arrive link byte) t = ⊤
  Still (Acknowledge link) t = ⊤

  happened : (e : Event) (t : Turn) → Happened m w e t → Still e t
      → Passed m w t.world.tasks t.world.roles t.world.channels t.world.links → AllInOrder (Aside t.world) t.world
  happened e t (turns.was_at_fault f is) still passed = g.all
  happened e t (turns.it_rests rests) still passed = g.all
  happened e t (turns.is_outside p task why runs here) still passed = g.all
  happened e t (turns.is_prefix {pick = pick} p task byte operand runs here at none it next) still passed =
      prefixed (at_here m p task pick) w runs here g
      (record task.registers { at = task.registers.at + 1; operand = operand }) refl
  happened e t (turns.is_step {pick = pick} p task byte f runs here at is so) still passed =
      let h = at_here m p task pick in
      let operand = with_nibble task.registers.operand (nibble byte) in
      ends h w runs here g _ t so (steps_leave (site_of h w) (local_here task w) f operand)
      (steps_fit (site_of h w) f operand (local_here task w)) still (hold_on _ _ _ _ passed p runs)
  happened e t (turns.is_taken {link = link} {byte = byte} input p here waiting) still passed =
      taken p (link_index link) byte input (g.keeps.rest.waiters.inputs (link_index link) input p here waiting)
  happened e t (turns.is_kept {link = link} {byte = byte} input here none empty) still passed =
      let v = with_input (link_index link) (record input { kept = Some byte }) w in
      dispatched w (rouse input.enabled v) 0 (rouse_running input.enabled v)
      (all_roused (Aside w) input.enabled v g.all)
  happened e t (turns.is_acknowledged {link = link} output p here waiting) still passed =
      let k = link_index link in
      let v = with_output k (record { waiting = None }) w in
      dispatched w (wake p v) 0 (wake_running p v) (all_woken (Aside w) p v
      (waiter_is_live w p (output_word k) (g.keeps.rest.waiters.outputs k output p here waiting)) g.all)

-- ---- every world

module _ (m : Contents) (format : Keeps m) where
  pub ground : (es : List Event) → AllInOrder (Aside (world_after m es)) (world_after m es) → Ground (world_after m es)
  ground es all =
      let w = world_after m es in
      let small = format_is_small m format in
      let words = small.words in
      record {
        keeps = reached m es;
        apart = holdings_stay_apart m es format;
        data_alone = λ p x own.
            let low = written_is_data m w.roles w.channels (all_stand m small es).holders p x own in
            omega (arith, words, low);
        lies = (all_inside m es).roles;
        all = all;
      }

  root_alone : AllInOrder (Aside (loaded m)) (loaded m)
  root_alone zero t at =
      let same : root_task m ≡ t = cc in
      subst (IsInOrder (holding_at (loaded m).roles 0) (loaded m).memory (Aside (loaded m) 0)) same
      (outside_in_order (holding_at (loaded m).roles 0) (loaded m).memory (Aside (loaded m) 0) (root_task m) refl
      (λ aside. aside refl) (plain_is_outside (root_task m).mode refl))
  root_alone (suc p) t at = absurd (cc)

  next : (es : List Event) (e : Event) → AllInOrder (Aside (world_after m es)) (world_after m es)
      → let t = turn m (world_after m es) e in AllInOrder (Aside t.world) t.world
  next es e all =
      let w = world_after m es in
      let t = turn m w e in
      happened m w (ground es all) e t (turn_happens m w e) (still e)
      (passes m w (reached m es) e t (turn_happens m w e))
    where
      still : (e : Event) → Still m (world_after m es) (ground es all) e (turn m (world_after m es) e)
      still (Step slice pick) = stays_unreached m es slice pick
      still (Arrive link byte) = tt
      still (Acknowledge link) = tt

  pub all_parked : (es : List Event) → AllInOrder (Aside (world_after m es)) (world_after m es)
  all_parked = every_world m (λ w. AllInOrder (Aside w) w) root_alone next

-- ---- who is parked

pub among_absent : (p : ℕ) (ps : List ℕ) → IsAmong p ps → IsAbsent p ps → ⊥
among_absent p [] among absent = among
among_absent p (q ∷ qs) (inl here) absent = absent.0 (sym here)
among_absent p (q ∷ qs) (inr there) absent = among_absent p qs there absent.1

pub among_ready : (tasks : List Task) (p : ℕ) (ps : List ℕ) → IsAmong p ps → AllReady tasks ps → IsReadyAt tasks p
among_ready tasks p [] among all = absurd among
among_ready tasks p (q ∷ qs) (inl here) all = subst (IsReadyAt tasks) here all.0
among_ready tasks p (q ∷ qs) (inr there) all = among_ready tasks p qs there all.1

pub who_is_ready_is_parked : WhoIsReadyIsParked
who_is_ready_is_parked m es p among = on w.queue.running refl (reached m es).line.ready (reached m es).line.once
  where
    w : World
    w = world_after m es

    parked : AllReady w.tasks w.queue.ready → (w.queue.running ≡ Some p → ⊥) → (task : Task) × IsParked w p task
    parked all aside =
        let x = among_ready w.tasks p w.queue.ready among all in
        (x.task, record { here = x.here; live = subst IsLive (sym x.ready) tt; aside = aside })

    on : (o : Option ℕ) → w.queue.running ≡ o → AllReady w.tasks (line_of o w.queue.ready)
        → AllDiffer (line_of o w.queue.ready) → (task : Task) × IsParked w p task
    on None runs all once = parked all (λ also. let z : None ≡ Some p = sym runs ∙ also in cc)
    on (Some q) runs all once = parked all.1 (λ also. among_absent p w.queue.ready among
        (subst (λ n. IsAbsent n w.queue.ready) (same_some w.queue.running q p runs also) once.0))

pub who_waits_is_parked : WhoWaitsIsParked
who_waits_is_parked m es p task here live waits =
    let w = world_after m es in
    record {
      here = here;
      live = live;
      aside = λ runs. waits (running_is_ready (at_here m p task 0) w runs here (reached m es));
    }

-- ---- the laws

pub parked_are_at_rest : WhoIsParkedIsAtRest
parked_are_at_rest m es p task format x = (all_parked m format es p task x.here).rest x.live x.aside

pub parked_words_are_blank : ParkedWordsAreBlank
parked_words_are_blank m es p task format either = elim either [
  | inl x ↦ (all_parked m format es p task x.here).words (inr (x.live, x.aside))
  | inr x ↦ (all_parked m format es p task x.here).words (inl x.inside)
]

pub selections_are_blank : SelectionsAreBlank
selections_are_blank m es p task format here disables = (all_parked m format es p task here).selection disables

pub buffers_are_held : BuffersAreHeld
buffers_are_held m es p task format here = (all_parked m format es p task here).buffer

-- the word below it is one process's own
pub workspaces_differ : WorkspacesDiffer
workspaces_differ m es p q t u format differ one other same =
    let w = world_after m es in
    let x = place_of (scheduling_word t.registers.workspace 0) in
    let mine = (parked_words_are_blank m es p t format one x (0, omega arith, (omega arith, omega arith))).own in
    let words = subst (HasWords (holding_at w.roles q) w.memory) (sym same)
    (parked_words_are_blank m es q u format other) in
    let theirs = (words x (0, omega arith, (omega arith, omega arith))).own in
    apart_at w.roles w.channels (holdings_stay_apart m es format) p q x differ mine theirs

pub arrivals_follow : ArrivalsFollow
arrivals_follow m es k place format x =
    arrives_at (world_after m es) (ground m format es (all_parked m format es)) place
    (record { process = x.process; link = k; waits = x.waits; is = x.is })
