-- What the moves of processes leave alone.
use Rattle.std.proofs.Common.{◌≡◌, ℕ, ℤ, pos, Bool, true, false, if◌then◌else◌, List, length, Option, Some, None}
use Rattle.std.proofs.Common.{refl, sym, ap, ◌∙◌, slice_get}
use Rattle.std.proofs.lemmas.List.{length-set}
use Rattle.std.specs.Prelude.{◌==◌, filter, not, slice_set}
use Rattle.module_format.specs.Contents.{Par}
use Rattle.machine_state.specs.declared.process.Task.{Task}
use Rattle.machine_state.specs.declared.process.Mode.{Mode}
use Rattle.machine_state.specs.declared.process.Mode.TheVariants.{Plain, Enabling, Disabling, Starting}
use Rattle.machine_state.specs.declared.process.Condition.{Condition}
use Rattle.machine_state.specs.declared.process.Condition.TheVariants.{Ready, Sending, Receiving, OnLink, Alternating}
use Rattle.machine_state.specs.declared.process.Condition.TheVariants.{Stopped, Ended}
use Rattle.machine_state.specs.World.{World, Join, Role, Queue}
use Rattle.machine_state.specs.Site.{Local}
use Rattle.machine_state.specs.LocalStep.{with_a_alone}
use Rattle.machine_state.specs.declared.process.Registers.{Registers}
use Rattle.machine_state.specs.Memory.{Memory}
use Rattle.machine_state.specs.Turn.{Here, between, continued}
use Rattle.machine_state.specs.Alternations.{chosen, selected, in_mode}
use Rattle.machine_state.specs.Moves.{on_task, enqueue, wake, rouse, rouse_enabling, rouse_task}
use Rattle.machine_state.specs.Moves.{dispatch, leave}
use Rattle.machine_state.specs.Joins as join
use Rattle.machine_state.specs.Joins.{on_role, member_joined, closed_task}
use Rattle.machine_state.specs.EnabledLaws.{Disables}

-- tasks and queue alone have changed, and no task has come or gone
pub record OnlyTasks (w after : World) : Type 0 where
  pub memory : after.memory ≡ w.memory
  pub roles : after.roles ≡ w.roles
  pub links : after.links ≡ w.links
  pub channels : after.channels ≡ w.channels
  pub counters : after.counters ≡ w.counters
  pub fault : after.fault ≡ w.fault
  pub size : length after.tasks ≡ length w.tasks

tasks_only : (w : World) (tasks : List Task) (queue : Queue) → length tasks ≡ length w.tasks
    → OnlyTasks w (record w { tasks = tasks; queue = queue })
tasks_only w tasks queue size = record {
  memory = refl;
  roles = refl;
  links = refl;
  channels = refl;
  counters = refl;
  fault = refl;
  size = size;
}

nothing_changes : (w : World) → OnlyTasks w w
nothing_changes w = tasks_only w w.tasks w.queue refl

pub on_task_only : (p : ℕ) (f : Task → Task) (w : World) → OnlyTasks w (on_task p f w)
on_task_only p f w = on (slice_get w.tasks p)
  where
    on : (o : Option Task) → OnlyTasks w
        (elim o [ None ↦ w | Some task ↦ record w { tasks = slice_set w.tasks p (f task) } ])
    on None = nothing_changes w
    on (Some task) = tasks_only w (slice_set w.tasks p (f task)) w.queue (length-set w.tasks p (f task))

-- what is made of one that is there
pub at_some : {A B : Type 0} (o : Option A) (x : A) (none : B) (some : A → B) → o ≡ Some x
    → elim o as (λ o. B) [ None ↦ none | Some y ↦ some y ] ≡ some x
at_some {A} {B} o x none some is =
    ap (λ (o : Option A). elim o as (λ o. B) [ None ↦ none | Some y ↦ some y ]) is

-- the world after a task was changed that is there
pub on_task_is : (q : ℕ) (f : Task → Task) (w : World) (t : Task) → slice_get w.tasks q ≡ Some t
    → on_task q f w ≡ record w { tasks = slice_set w.tasks q (f t) }
on_task_is q f w t here =
    at_some (slice_get w.tasks q) t w (λ task. record w { tasks = slice_set w.tasks q (f task) }) here

-- equal worlds have the same tasks, and the same roles
pub tasks_of_equal : {v w : World} → v ≡ w → v.tasks ≡ w.tasks
tasks_of_equal same = ap (λ (x : World). x.tasks) same

pub roles_of_equal : {v w : World} → v ≡ w → v.roles ≡ w.roles
roles_of_equal same = ap (λ (x : World). x.roles) same

pub wake_only : (p : ℕ) (w : World) → OnlyTasks w (wake p w)
wake_only p w = on (slice_get w.tasks p)
  where
    ready : Task → Task
    ready task = record task { condition = Ready }

    on : (o : Option Task) → OnlyTasks w (enqueue p
        (elim o [ None ↦ w | Some task ↦ record w { tasks = slice_set w.tasks p (ready task) } ]))
    on None = tasks_only w w.tasks _ refl
    on (Some task) = tasks_only w (slice_set w.tasks p (ready task)) _ (length-set w.tasks p (ready task))

pub rouse_only : (o : Option ℕ) (w : World) → OnlyTasks w (rouse o w)
rouse_only None w = nothing_changes w
rouse_only (Some p) w = on (slice_get w.tasks p)
  where
    on_mode : (mode : Mode) → OnlyTasks w (rouse_enabling p mode w)
    on_mode (Enabling is_ready) = on_task_only p (λ task. record task { mode = Enabling true }) w
    on_mode _ = nothing_changes w

    on_condition : (mode : Mode) (c : Condition) → OnlyTasks w (rouse_task p mode c w)
    on_condition mode Alternating = wake_only p w
    on_condition mode _ = on_mode mode

    on : (o : Option Task)
        → OnlyTasks w (elim o [ None ↦ w | Some task ↦ rouse_task p task.mode task.condition w ])
    on None = nothing_changes w
    on (Some task) = on_condition task.mode task.condition

-- ---- a move that has nothing to do with tasks

-- it makes no difference whether it comes before a move of tasks or after
module _ (move : World → World) (same : (w : World) → (move w).tasks ≡ w.tasks)
    (sets : (w : World) (tasks : List Task) → move (record w { tasks = tasks }) ≡ record (move w) { tasks = tasks })
    (queues : (p : ℕ) (w : World) → move (enqueue p w) ≡ enqueue p (move w)) where
  pub on_task_beside : (p : ℕ) (f : Task → Task) (w : World) → move (on_task p f w) ≡ on_task p f (move w)
  on_task_beside p f w = on (slice_get w.tasks p) ∙ ap (λ (ts : List Task). elim (slice_get ts p) as (λ o. World) [
    | None ↦ move w
    | Some task ↦ record (move w) { tasks = slice_set ts p (f task) }
  ]) (sym (same w))
    where
      on : (o : Option Task) → move (elim o as (λ o. World) [
        | None ↦ w
        | Some task ↦ record w { tasks = slice_set w.tasks p (f task) }
      ]) ≡ elim o as (λ o. World) [
        | None ↦ move w
        | Some task ↦ record (move w) { tasks = slice_set w.tasks p (f task) }
      ]
      on None = refl
      on (Some task) = sets w (slice_set w.tasks p (f task))

  pub wake_beside : (p : ℕ) (w : World) → move (wake p w) ≡ wake p (move w)
  wake_beside p w =
      queues p (on_task p (λ task. record task { condition = Ready }) w)
      ∙ ap (enqueue p) (on_task_beside p (λ task. record task { condition = Ready }) w)

  pub rouse_beside : (o : Option ℕ) (w : World) → move (rouse o w) ≡ rouse o (move w)
  rouse_beside None w = refl
  rouse_beside (Some p) w = on (slice_get w.tasks p) ∙ ap (λ (ts : List Task). elim (slice_get ts p) as (λ o. World) [
    | None ↦ move w
    | Some task ↦ rouse_task p task.mode task.condition (move w)
  ]) (sym (same w))
    where
      on_mode : (mode : Mode) → move (rouse_enabling p mode w) ≡ rouse_enabling p mode (move w)
      on_mode (Enabling is_ready) = on_task_beside p (λ task. record task { mode = Enabling true }) w
      on_mode Plain = refl
      on_mode (Disabling selection) = refl
      on_mode Starting = refl

      on_condition : (mode : Mode) (c : Condition) → move (rouse_task p mode c w) ≡ rouse_task p mode c (move w)
      on_condition mode Alternating = wake_beside p w
      on_condition mode Ready = on_mode mode
      on_condition mode (Sending e) = on_mode mode
      on_condition mode (Receiving e) = on_mode mode
      on_condition mode (OnLink e done) = on_mode mode
      on_condition mode Stopped = on_mode mode
      on_condition mode Ended = on_mode mode

      on : (o : Option Task) → move (elim o as (λ o. World) [
        | None ↦ w
        | Some task ↦ rouse_task p task.mode task.condition w
      ]) ≡ elim o as (λ o. World) [
        | None ↦ move w
        | Some task ↦ rouse_task p task.mode task.condition (move w)
      ]
      on None = refl
      on (Some task) = on_condition task.mode task.condition

-- ---- what is selected

-- what is selected makes a difference to the registers and the mode of the process, and to memory, alone
pub chooses : (h : Here) (w : World) (l : Local) (P : World → Type 0)
    → ((r : Registers) (mode : Mode) (m : Memory) → r.workspace ≡ l.registers.workspace
    → (Disables h.from.mode → Disables mode) → P (record w {
      memory = m;
      tasks = slice_set w.tasks h.process (record h.from { registers = r; mode = mode });
    })) → (is_ready : Bool) (distance : ℤ) → P (chosen h is_ready distance l w)
chooses h w l P kept is_ready distance = on (selected h.from.mode is_ready distance)
  where
    on : (b : Bool) → P (if b
        then in_mode h (Disabling (Some distance)) (with_a_alone (Some (pos 1)) l) w
        else continued h h.next (with_a_alone (Some (pos 0)) l) w)
    on true = kept (between h.next (with_a_alone (Some (pos 1)) l).registers) (Disabling (Some distance)) l.memory refl
        (λ disables. (Some distance, refl))
    on false = kept (between h.next (with_a_alone (Some (pos 0)) l).registers) h.from.mode l.memory refl
        (λ disables. disables)

-- ---- roles

-- neither memory nor the counters have changed
pub record Quiet (w after : World) : Type 0 where
  pub memory : after.memory ≡ w.memory
  pub counters : after.counters ≡ w.counters

-- roles alone have changed
pub record OnlyRoles (w after : World) : Type 0 where
  pub quiet : Quiet w after
  pub tasks : after.tasks ≡ w.tasks
  pub links : after.links ≡ w.links
  pub channels : after.channels ≡ w.channels

pub on_role_only : (p : ℕ) (f : Role → Role) (w : World) → OnlyRoles w (on_role p f w)
on_role_only p f w = on (slice_get w.roles p)
  where
    on : (o : Option Role) → OnlyRoles w
        (elim o [ None ↦ w | Some role ↦ record w { roles = slice_set w.roles p (f role) } ])
    on None = record { quiet = record { memory = refl; counters = refl }; tasks = refl; links = refl; channels = refl }
    on (Some role) =
        record { quiet = record { memory = refl; counters = refl }; tasks = refl; links = refl; channels = refl }

-- the world after a role was changed that is there
pub on_role_is : (p : ℕ) (f : Role → Role) (w : World) (r : Role) → slice_get w.roles p ≡ Some r
    → on_role p f w ≡ record w { roles = slice_set w.roles p (f r) }
on_role_is p f w r here =
    at_some (slice_get w.roles p) r w (λ role. record w { roles = slice_set w.roles p (f role) }) here

-- ---- a member of a join ends

-- a join without a member
abbrev pub without : ℕ → Join → Join
without p j = record j { members = filter (λ q. not (q == p)) j.members }

-- no other member is left
abbrev pub is_last : ℕ → Join → Bool
is_last p j = length (filter (λ q. not (q == p)) j.members) == 0

abbrev pub with_opened : Option Join → Role → Role
with_opened o role = record role { opened = o }

-- the world in which the process is a member of its opener's join no more
abbrev pub member_gone : Here → ℕ → Join → World → World
member_gone h o j w = on_role o (with_opened (Some (without h.process j))) w

-- the join goes on, or is over
pub joined_either : (P : World → Type 0) (h : Here) (o : ℕ) (j : Join) (par : Par) (w : World)
    → (is_last h.process j ≡ true → P (join.closed o j par (member_gone h o j w)))
    → (is_last h.process j ≡ false → P (dispatch h.pick (leave (member_gone h o j w)))) → P (member_joined h o j par w)
joined_either P h o j par w over more = on (is_last h.process j) refl
  where
    on : (b : Bool) → is_last h.process j ≡ b
        → P (if b then join.closed o j par (member_gone h o j w) else dispatch h.pick (leave (member_gone h o j w)))
    on true none = over none
    on false some = more some

pub joined_quiet : (h : Here) (o : ℕ) (j : Join) (par : Par) (w : World) → Quiet w (member_joined h o j par w)
unfolding dispatch
joined_quiet h o j par w = joined_either (Quiet w) h o j par w
    (λ none. record {
      memory = shut.quiet.memory ∙ (over.memory ∙ gone.quiet.memory);
      counters = shut.quiet.counters ∙ (over.counters ∙ gone.quiet.counters);
    })
    (λ some. record { memory = gone.quiet.memory; counters = gone.quiet.counters })
  where
    there : World
    there = member_gone h o j w

    gone : OnlyRoles w there
    gone = on_role_only o (with_opened (Some (without h.process j))) w

    over : OnlyTasks there (on_task o (closed_task j par) there)
    over = on_task_only o (closed_task j par) there

    shut : OnlyRoles (on_task o (closed_task j par) there)
        (on_role o (with_opened None) (on_task o (closed_task j par) there))
    shut = on_role_only o (with_opened None) (on_task o (closed_task j par) there)
