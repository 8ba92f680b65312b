-- Where no process runs, none is ready: what each event leaves of the queue.
use Rattle.std.proofs.Common.{◌≡◌, ℕ, zero, suc, ◌<◌, ◌%◌, ◌==◌, Bool, true, false, cond, List, [], ◌∷◌, length}
use Rattle.std.proofs.Common.{Option, Some, None, slice_get, slice_set, ℤ, pos, refl, ap, sym, subst, ◌∙◌, arith}
use Rattle.std.proofs.Math.Nat.{mod-lt}
use Rattle.module_format.specs.Contents.{Contents, Par}
use Rattle.machine_state.specs.declared.event.Event.{Event}
use Rattle.machine_state.specs.declared.process.Task.{Task}
use Rattle.machine_state.specs.declared.process.Mode.TheVariants.{Disabling}
use Rattle.machine_state.specs.Alternations.{chosen, in_mode, selected, Source}
use Rattle.machine_state.specs.Endings as turns
use Rattle.machine_state.specs.Endings.{Moved, TurnsInto, Happened, IsSource}
use Rattle.machine_state.specs.Happens.{Here, Turn, turn, happens, run_from, world_after}
use Rattle.machine_state.specs.Joins.{member_joined, on_role, closed, ended, given_back}
use Rattle.machine_state.specs.LocalStep.{with_a_alone}
use Rattle.machine_state.specs.Moves.{on_task, wake, leave, dispatch, picked}
use Rattle.machine_state.specs.Roles.{members_without, with_join}
use Rattle.machine_state.specs.Site.{Local, Outcome}
use Rattle.machine_state.specs.Turn.{continued}
use Rattle.machine_state.specs.World.{World, Role, Queue, Join, loaded}
use Rattle.machine_state.proofs.Turns.{turn_happens}
use Rattle.waiting_texts.specs.Resting.{NobodyIsReadyAtRest}

-- ---- the queue

-- where nobody runs, nobody is ready
abbrev IsSettled : Queue → Type 0
IsSettled queue = queue.running ≡ None → queue.ready ≡ []

somebody_runs : (queue : Queue) (p : ℕ) → queue.running ≡ Some p → IsSettled queue
somebody_runs queue p runs none = absurd (cc)

is_there : (xs : List ℕ) (k : ℕ) → k < length xs → slice_get xs k ≡ None → ⊥
is_there [] k less none = absurd (omega arith)
is_there (x ∷ xs) zero less none = cc
is_there (x ∷ xs) (suc k) less none = is_there xs k (omega arith) none

picked_settles : (pick : ℕ) (running : Option ℕ) (ready : List ℕ)
    → IsSettled (picked pick (record { running = running; ready = ready }))
picked_settles pick (Some p) ready none = absurd (cc)
picked_settles pick None [] none = refl
picked_settles pick None (p ∷ ps) none =
    absurd (is_there (p ∷ ps) (pick % length (p ∷ ps)) (mod-lt pick (omega arith)) none)

dispatched : (pick : ℕ) (w : World) → IsSettled (dispatch pick w).queue
unfolding dispatch
dispatched pick w = picked_settles pick w.queue.running w.queue.ready

on_task_queue : (p : ℕ) (f : Task → Task) (w : World) → (on_task p f w).queue ≡ w.queue
on_task_queue p f w = go (slice_get w.tasks p)
  where
    go : (o : Option Task) → World.queue (elim o [
      | None ↦ w
      | Some task ↦ record w { tasks = slice_set w.tasks p (f task) }
    ]) ≡ w.queue
    go None = refl
    go (Some task) = refl

on_role_queue : (p : ℕ) (f : Role → Role) (w : World) → (on_role p f w).queue ≡ w.queue
on_role_queue p f w = go (slice_get w.roles p)
  where
    go : (o : Option Role) → World.queue (elim o [
      | None ↦ w
      | Some role ↦ record w { roles = slice_set w.roles p (f role) }
    ]) ≡ w.queue
    go None = refl
    go (Some role) = refl

wake_running : (p : ℕ) (w : World) → (wake p w).queue.running ≡ w.queue.running
wake_running p w = ap (λ (queue : Queue). queue.running) (on_task_queue p _ w)

either_queue : (b : Bool) (v u w : World) → v.queue ≡ w.queue → u.queue ≡ w.queue → World.queue (cond b v u) ≡ w.queue
either_queue true v u w first second = first
either_queue false v u w first second = second

either_settles : (b : Bool) (v u : World) → IsSettled v.queue → IsSettled u.queue → IsSettled (World.queue (cond b v u))
either_settles true v u first second = first
either_settles false v u first second = second

chosen_queue : (h : Here) (b : Bool) (distance : ℤ) (l : Local) (w : World) → (chosen h b distance l w).queue ≡ w.queue
chosen_queue h b distance l w =
    either_queue (selected h.from.mode b distance)
    (in_mode h (Disabling (Some distance)) (with_a_alone (Some (pos 1)) l) w)
    (continued h h.next (with_a_alone (Some (pos 0)) l) w) w refl refl

joined_settles : (h : Here) (opener : ℕ) (j : Join) (par : Par) (w : World)
    → IsSettled (member_joined h opener j par w).queue
joined_settles h opener j par w =
    let members = members_without h.process j.members in
    let there = on_role opener (with_join (record j { members = members })) w in
    either_settles (length members == 0) (closed opener (record j { members = members }) par there)
    (dispatch h.pick (leave there)) (somebody_runs _ opener refl) (dispatched h.pick (leave there))

-- ---- one event

module _ (h : Here) (w : World) (runs : w.queue.running ≡ Some h.process) where
  on_source : (address : ℕ) (s : Source) → IsSource w address s → (p : Option ℕ) (v : World)
      → v.queue ≡ w.queue → IsSettled (s.with_enabled p v).queue
  on_source address s (turns.on_channel c none here) p v same =
      somebody_runs v.queue h.process (ap (λ (queue : Queue). queue.running) same ∙ runs)
  on_source address s (turns.on_link k link at here) p v same =
      somebody_runs v.queue h.process (ap (λ (queue : Queue). queue.running) same ∙ runs)

  moved : (o : Outcome) (after : World) → Moved h w o after → IsSettled after.queue
  moved o after (turns.it_goes l) = somebody_runs w.queue h.process runs
  moved o after (turns.it_jumps to l) = somebody_runs w.queue h.process runs
  moved o after (turns.it_is_sliced to l) = dispatched h.pick _
  moved o after (turns.it_lands to l) = somebody_runs w.queue h.process runs
  moved o after (turns.it_stops l) = dispatched h.pick _
  moved o after (turns.receives_first e l c none here nobody) = dispatched h.pick _
  moved o after (turns.receives_from e l c other sent none here waits condition same) =
      somebody_runs _ h.process (wake_running other _ ∙ runs)
  moved o after (turns.receives_none e l k link on here empty) = dispatched h.pick _
  moved o after (turns.receives_last e l k link byte on here kept one) = somebody_runs w.queue h.process runs
  moved o after (turns.receives_one e l k link byte on here kept more) = dispatched h.pick _
  moved o after (turns.sends_first e l c none here nobody) = dispatched h.pick _
  moved o after (turns.sends_to e l c other wanted none here waits condition same) =
      somebody_runs _ h.process (wake_running other _ ∙ runs)
  moved o after (turns.starts_first target workspace l found is none passes) =
      somebody_runs _ h.process (ap (λ (queue : Queue). queue.running) (on_role_queue h.process _ _) ∙ runs)
  moved o after (turns.starts_later target workspace l found j is opened same passes) =
      somebody_runs _ h.process (ap (λ (queue : Queue). queue.running) (on_role_queue h.process _ _) ∙ runs)
  moved o after (turns.joins_own block l j par opened row is) = joined_settles h h.process j par (ended h l w)
  moved o after (turns.joins_opener block l opener j par none by opened row is) = joined_settles h opener j par (given_back h (ended h l w))
  moved o after (turns.it_begins l) = somebody_runs w.queue h.process runs
  moved o after (turns.it_enables guard address l s is source free) = on_source address s source _ _ refl
  moved o after (turns.it_enables_nothing guard address l is) = somebody_runs w.queue h.process runs
  moved o after (turns.it_enables_a_skip guard l) = somebody_runs w.queue h.process runs
  moved o after (turns.it_is_ready l mode) = somebody_runs w.queue h.process runs
  moved o after (turns.it_waits l mode) = dispatched h.pick _
  moved o after (turns.it_disables guard address distance l s is source own) =
      on_source address s source None _ (chosen_queue h s.is_ready distance l w)
  moved o after (turns.it_disables_nothing guard address distance l is) =
      somebody_runs _ h.process (ap (λ (queue : Queue). queue.running) (chosen_queue h false distance l w) ∙ runs)
  moved o after (turns.it_disables_a_skip guard distance l) =
      somebody_runs _ h.process (ap (λ (queue : Queue). queue.running) (chosen_queue h guard distance l w) ∙ runs)
  moved o after (turns.it_ends_alternation to l none) = somebody_runs w.queue h.process runs

  turned : (o : Outcome) (t : Turn) → TurnsInto h w o t → IsSettled t.world.queue
  turned o t (turns.at_fault refused) = somebody_runs w.queue h.process runs
  turned o t (turns.has_run moves) = moved o _ moves
  turned o t (turns.has_emitted e l k on same) = dispatched h.pick _

happened : (m : Contents) (w : World) (e : Event) (t : Turn) → Happened m w e t → IsSettled w.queue
    → IsSettled t.world.queue
happened m w e t (turns.was_at_fault f is) settled = settled
happened m w e t (turns.it_rests rests) settled = settled
happened m w e t (turns.is_outside p task why runs here) settled = settled
happened m w e t (turns.is_prefix p task byte operand runs here at none it next) settled = settled
happened m w e t (turns.is_step p task byte f runs here at is ends) settled = turned _ w runs _ t ends
happened m w e t (turns.is_taken input p here waits) settled = dispatched 0 _
happened m w e t (turns.is_kept input here nobody empty) settled = dispatched 0 _
happened m w e t (turns.is_acknowledged output p here waits) settled = dispatched 0 _

-- ---- every world

further : (m : Contents) (w : World) (es : List Event) → IsSettled w.queue → IsSettled (run_from m w es).queue
further m w [] settled = settled
further m w (e ∷ es) settled =
    further m (happens m w e) es (happened m w e (turn m w e) (turn_happens m w e) settled)

pub nobody_ready : NobodyIsReadyAtRest
nobody_ready m w of =
    subst (λ (v : World). IsSettled v.queue) (sym of.world)
    (further m (loaded m) of.events (somebody_runs (loaded m).queue 0 refl))
