-- What a byte that arrives for a process leaves alone.
use Rattle.std.proofs.Common.{◌≡◌, ℕ, ◌+◌, Bool, true, false, if◌then◌else◌, length, Option, Some, None, refl}
use Rattle.std.proofs.Common.{slice_get}
use Rattle.std.specs.Prelude.{◌%◌, ◌^◌, ◌==◌}
use Rattle.machine_state.specs.declared.link.InputLink.{InputLink}
use Rattle.machine_state.specs.declared.process.Condition.{Condition}
use Rattle.machine_state.specs.declared.process.Condition.TheVariants.{OnLink}
use Rattle.machine_state.specs.declared.process.Task.{Task}
use Rattle.machine_state.specs.Memory.{place_of, with_byte}
use Rattle.machine_state.specs.Moves.{fill, fill_condition, with_input}
use Rattle.machine_state.specs.World.{World}
use Rattle.machine_state.proofs.MovesLeaveAlone.{OnlyTasks, on_task_only, wake_only}

-- roles and channels are as they were, and no task has come or gone
pub record FillOnly (w after : World) : Type 0 where
  pub roles : after.roles ≡ w.roles
  pub channels : after.channels ≡ w.channels
  pub size : length after.tasks ≡ length w.tasks

only : (w v : World) → OnlyTasks w v → FillOnly w v
only w v x = record { roles = x.roles; channels = x.channels; size = x.size }

by_test : (b : Bool) (w x y : World) → FillOnly w x → FillOnly w y → FillOnly w (if b then x else y)
by_test true w x y p q = p
by_test false w x y p q = q

pub fill_only : (p k byte : ℕ) (link : InputLink) (w : World) → FillOnly w (fill p k byte link w)
fill_only p k byte link w = on (slice_get w.tasks p)
  where
    on_condition : (c : Condition) → FillOnly w (fill_condition p k byte link c w)
    on_condition (OnLink e done) =
        let filled : World = record w {
          memory = with_byte w.memory (place_of ((e.address + done) % 2 ^ 32)) (Some byte);
        } in
        let x = wake_only p (with_input k (record link { waiting = None }) filled) in
        let y = on_task_only p (λ task. record task { condition = OnLink e (done + 1) }) filled in
        by_test (done + 1 == e.length) w _ _
        (record { roles = x.roles; channels = x.channels; size = x.size })
        (record { roles = y.roles; channels = y.channels; size = y.size })
    on_condition _ = record { roles = refl; channels = refl; size = refl }

    on : (o : Option Task)
        → FillOnly w (elim o [ None ↦ w | Some task ↦ fill_condition p k byte link task.condition w ])
    on None = record { roles = refl; channels = refl; size = refl }
    on (Some task) = on_condition task.condition
