-- How many bytes can arrive before a process runs.
use Rattle.std.specs.Prelude.{◌≡◌, ℕ, ◌+◌, ◌-◌, List, Option, Some, None, slice_get, refl}
use Rattle.std.specs.Option.{option_map}
use Rattle.std.proofs.Common.{ap, ◌∙◌}
use Rattle.std.proofs.lemmas.Option.{slice_get-map}
use Rattle.module_format.specs.Contents.{Contents}
use Rattle.machine_state.specs.declared.link.InputLink.{InputLink}
use Rattle.machine_state.specs.declared.process.Condition.{Condition}
use Rattle.machine_state.specs.declared.process.Condition.TheVariants as condition
use Rattle.machine_state.specs.declared.process.Task.{Task}
use Rattle.machine_state.specs.World.{World}
use Rattle.link_runs.specs.Awaiting.{awaited, awaited_at, awaited_on, keepable, needed_by, needed_in, needed_of}
use Rattle.plain_machine.specs.declared.input.PlainArrival.{PlainArrival}
use Rattle.plain_machine.specs.declared.input.PlainInput.{PlainInput}
use Rattle.agreement.specs.Agrees.{PlainMachine, Agrees, arrival_in, arrival_of, plain_input}

-- how many bytes of a message have not come
abbrev pub plain_needed : Option PlainArrival → ℕ
plain_needed None = 0
plain_needed (Some arrival) = arrival.length - arrival.done

abbrev pub plain_awaited_at : Option PlainInput → ℕ
plain_awaited_at None = 0
plain_awaited_at (Some input) = plain_needed input.waiting + keepable input.kept

-- the same of input link k
abbrev pub plain_awaited_on : PlainMachine → ℕ → ℕ
plain_awaited_on machine k = plain_awaited_at (slice_get machine.inputs k)

abbrev pub plain_awaited : PlainMachine → ℕ
plain_awaited machine =
    plain_awaited_on machine 0 + plain_awaited_on machine 1 + plain_awaited_on machine 2 + plain_awaited_on machine 3

-- ---- it is what the world says

needed_there : (workspace : ℕ) (c : Condition) → plain_needed (arrival_in workspace c) ≡ needed_by c
needed_there workspace condition.Ready = refl
needed_there workspace (condition.Sending e) = refl
needed_there workspace (condition.Receiving e) = refl
needed_there workspace (condition.OnLink e done) = refl
needed_there workspace condition.Alternating = refl
needed_there workspace condition.Stopped = refl
needed_there workspace condition.Ended = refl

needed_of_task : (o : Option Task) → plain_needed (elim o [
  | None ↦ None
  | Some task ↦ arrival_in task.registers.workspace task.condition
]) ≡ needed_in o
needed_of_task None = refl
needed_of_task (Some task) = needed_there task.registers.workspace task.condition

needed_as : (tasks : List Task) (o : Option ℕ) → plain_needed (arrival_of tasks o) ≡ needed_of tasks o
needed_as tasks None = refl
needed_as tasks (Some p) = needed_of_task (slice_get tasks p)

awaited_of : (tasks : List Task) (o : Option InputLink)
    → plain_awaited_at (option_map (plain_input tasks) o) ≡ awaited_at tasks o
awaited_of tasks None = refl
awaited_of tasks (Some link) = ap (λ (n : ℕ). n + keepable link.kept) (needed_as tasks link.waiting)

-- no tactic is among these, since an implementation names the last one
pub awaited_as : (m : Contents) (machine : PlainMachine) (w : World) → Agrees m machine w
    → plain_awaited machine ≡ awaited w
awaited_as m machine w agrees =
    ap (λ (n : ℕ). n + plain_awaited_on machine 1 + plain_awaited_on machine 2 + plain_awaited_on machine 3) (on 0)
    ∙ (ap (λ (n : ℕ). awaited_on w 0 + n + plain_awaited_on machine 2 + plain_awaited_on machine 3) (on 1)
    ∙ (ap (λ (n : ℕ). awaited_on w 0 + awaited_on w 1 + n + plain_awaited_on machine 3) (on 2)
    ∙ ap (λ (n : ℕ). awaited_on w 0 + awaited_on w 1 + awaited_on w 2 + n) (on 3)))
  where
    on : (k : ℕ) → plain_awaited_on machine k ≡ awaited_on w k
    on k =
        ap (λ (inputs : List PlainInput). plain_awaited_at (slice_get inputs k)) agrees.inputs
        ∙ (ap plain_awaited_at (slice_get-map (plain_input w.tasks) w.links.inputs k)
        ∙ awaited_of w.tasks (slice_get w.links.inputs k))
