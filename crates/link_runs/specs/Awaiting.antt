-- How many bytes can arrive before a process runs.
use Rattle.std.specs.Prelude.{◌≡◌, ℕ, ◌+◌, ◌-◌, ◌<◌, ◌⊎◌, true, List, Option, Some, None, slice_get}
use Rattle.module_format.specs.Contents.{Contents}
use Rattle.machine_state.specs.declared.event.Event.{Event}
use Rattle.machine_state.specs.declared.event.Event.TheVariants.{Arrive}
use Rattle.machine_state.specs.declared.link.Link.{Link}
use Rattle.machine_state.specs.declared.link.InputLink.{InputLink}
use Rattle.machine_state.specs.declared.process.Condition.{Condition}
use Rattle.machine_state.specs.declared.process.Condition.TheVariants.{OnLink}
use Rattle.machine_state.specs.declared.process.Task.{Task}
use Rattle.machine_state.specs.World.{World}
use Rattle.machine_state.specs.Happens.{happens, world_after}
use Rattle.link_runs.specs.Wanting.{is_running, wants}

-- how many bytes of its message have not come
abbrev pub needed_by : Condition → ℕ
needed_by (OnLink exchange done) = exchange.length - done
needed_by _ = 0

abbrev pub needed_in : Option Task → ℕ
needed_in None = 0
needed_in (Some task) = needed_by task.condition

-- how many bytes the process that waits on a link still needs
abbrev pub needed_of : List Task → Option ℕ → ℕ
needed_of tasks None = 0
needed_of tasks (Some p) = needed_in (slice_get tasks p)

-- the byte that a link can keep
abbrev pub keepable : Option ℕ → ℕ
keepable None = 1
keepable (Some byte) = 0

abbrev pub awaited_at : List Task → Option InputLink → ℕ
awaited_at tasks None = 0
awaited_at tasks (Some link) = needed_of tasks link.waiting + keepable link.kept

-- the same of input link k
abbrev pub awaited_on : World → ℕ → ℕ
awaited_on w k = awaited_at w.tasks (slice_get w.links.inputs k)

abbrev pub awaited : World → ℕ
awaited w = awaited_on w 0 + awaited_on w 1 + awaited_on w 2 + awaited_on w 3

-- A byte that is wanted makes a process run, or leaves fewer to come.
abbrev pub ArrivalsComeToAnEnd : Type 0
ArrivalsComeToAnEnd = (m : Contents) (es : List Event) (link : Link) (byte : ℕ)
    → let w = world_after m es in w.fault ≡ None → wants link w ≡ true
    → let after = happens m w (Arrive link byte) in
    (is_running after ≡ true) ⊎ (awaited after < awaited w)
