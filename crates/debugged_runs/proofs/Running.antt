-- A process that runs goes on running, whatever comes from outside.
use Rattle.std.proofs.Common.{◌≡◌, ◌+◌, ◌==◌, ℕ, Bool, true, false, cond, is_some, List, Option, Some, None}
use Rattle.std.proofs.Common.{slice_get, slice_set, refl, ap, ◌∙◌}
use Rattle.module_format.specs.Contents.{Contents}
use Rattle.machine_state.specs.declared.event.Event.{Event}
use Rattle.machine_state.specs.declared.link.InputLink.{InputLink}
use Rattle.machine_state.specs.declared.process.Condition.{Condition}
use Rattle.machine_state.specs.declared.process.Condition.TheVariants as conditions
use Rattle.machine_state.specs.declared.process.Mode.{Mode}
use Rattle.machine_state.specs.declared.process.Mode.TheVariants as modes
use Rattle.machine_state.specs.declared.process.Task.{Task}
use Rattle.machine_state.specs.Endings as turns
use Rattle.machine_state.specs.Endings.{Happened}
use Rattle.machine_state.specs.Happens.{Turn, turn, happens}
use Rattle.machine_state.specs.Moves.{on_task, wake, fill, fill_condition, rouse, rouse_enabling, rouse_task, dispatch}
use Rattle.machine_state.specs.Moves.{picked}
use Rattle.machine_state.specs.World.{World}
use Rattle.machine_state.proofs.Turns.{turn_happens}
use Rattle.link_runs.specs.Deadlocks.{is_from_outside}
use Rattle.link_runs.specs.Wanting.{is_running}

-- the same process runs, or none in both
abbrev RunsAlike : World → World → Type 0
RunsAlike w after = after.queue.running ≡ w.queue.running

on_task_alike : (p : ℕ) (f : Task → Task) (w : World) → RunsAlike w (on_task p f w)
on_task_alike p f w = go (slice_get w.tasks p)
  where
    go : (o : Option Task) → RunsAlike w (elim o [
      | None ↦ w
      | Some task ↦ record w { tasks = slice_set w.tasks p (f task) }
    ])
    go None = refl
    go (Some task) = refl

wake_alike : (p : ℕ) (w : World) → RunsAlike w (wake p w)
wake_alike p w = on_task_alike p _ w

either_alike : (b : Bool) (v u w : World) → RunsAlike w v → RunsAlike w u → RunsAlike w (cond b v u)
either_alike true v u w first second = first
either_alike false v u w first second = second

filled_alike : (p k byte : ℕ) (link : InputLink) (c : Condition) (w : World)
    → RunsAlike w (fill_condition p k byte link c w)
filled_alike p k byte link conditions.Ready w = refl
filled_alike p k byte link (conditions.Sending e) w = refl
filled_alike p k byte link (conditions.Receiving e) w = refl
filled_alike p k byte link (conditions.OnLink e done) w =
    either_alike (done + 1 == e.length) _ _ w (wake_alike p _) (on_task_alike p _ _)
filled_alike p k byte link conditions.Alternating w = refl
filled_alike p k byte link conditions.Stopped w = refl
filled_alike p k byte link conditions.Ended w = refl

fill_alike : (p k byte : ℕ) (link : InputLink) (w : World) → RunsAlike w (fill p k byte link w)
fill_alike p k byte link w = go (slice_get w.tasks p)
  where
    go : (o : Option Task) → RunsAlike w (elim o [
      | None ↦ w
      | Some task ↦ fill_condition p k byte link task.condition w
    ])
    go None = refl
    go (Some task) = filled_alike p k byte link task.condition w

enabling_alike : (p : ℕ) (mode : Mode) (w : World) → RunsAlike w (rouse_enabling p mode w)
enabling_alike p modes.Plain w = refl
enabling_alike p (modes.Enabling is_ready) w = on_task_alike p _ w
enabling_alike p (modes.Disabling found) w = refl
enabling_alike p modes.Starting w = refl

task_alike : (p : ℕ) (mode : Mode) (c : Condition) (w : World) → RunsAlike w (rouse_task p mode c w)
task_alike p mode conditions.Ready w = enabling_alike p mode w
task_alike p mode (conditions.Sending e) w = enabling_alike p mode w
task_alike p mode (conditions.Receiving e) w = enabling_alike p mode w
task_alike p mode (conditions.OnLink e done) w = enabling_alike p mode w
task_alike p mode conditions.Alternating w = wake_alike p w
task_alike p mode conditions.Stopped w = enabling_alike p mode w
task_alike p mode conditions.Ended w = enabling_alike p mode w

rouse_alike : (enabled : Option ℕ) (w : World) → RunsAlike w (rouse enabled w)
rouse_alike None w = refl
rouse_alike (Some p) w = go (slice_get w.tasks p)
  where
    go : (o : Option Task) → RunsAlike w (elim o [
      | None ↦ w
      | Some task ↦ rouse_task p task.mode task.condition w
    ])
    go None = refl
    go (Some task) = task_alike p task.mode task.condition w

picked_runs : (running : Option ℕ) (ready : List ℕ) → is_some running ≡ true
    → is_some (picked 0 (record { running = running; ready = ready })).running ≡ true
picked_runs (Some p) ready runs = refl
picked_runs None ready runs = absurd (cc)

dispatched : (w after : World) → RunsAlike w after → is_running w ≡ true → is_running (dispatch 0 after) ≡ true
unfolding dispatch
dispatched w after alike runs =
    picked_runs after.queue.running after.queue.ready (ap (λ (o : Option ℕ). is_some o) alike ∙ runs)

goes_on : (m : Contents) (w : World) (e : Event) (t : Turn) → Happened m w e t → is_from_outside e ≡ true
    → is_running w ≡ true → is_running t.world ≡ true
goes_on m w e t (turns.was_at_fault f is) outside runs = runs
goes_on m w e t (turns.it_rests rests) outside runs = runs
goes_on m w e t (turns.is_outside p task why at here) outside runs = absurd (cc)
goes_on m w e t (turns.is_prefix p task byte operand at here code none it next) outside runs = absurd (cc)
goes_on m w e t (turns.is_step p task byte f at here code is ends) outside runs = absurd (cc)
goes_on m w e t (turns.is_taken input p here waits) outside runs = dispatched w _ (fill_alike p _ _ input w) runs
goes_on m w e t (turns.is_kept input here nobody empty) outside runs =
    dispatched w _ (rouse_alike input.enabled _) runs
goes_on m w e t (turns.is_acknowledged output p here waits) outside runs = dispatched w _ (wake_alike p _) runs

pub still_runs : (m : Contents) (w : World) (e : Event) → is_from_outside e ≡ true → is_running w ≡ true
    → is_running (happens m w e) ≡ true
still_runs m w e = goes_on m w e (turn m w e) (turn_happens m w e)
