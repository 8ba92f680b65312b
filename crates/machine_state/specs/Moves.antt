-- The moves that events are made of. Each changes one or two parts of the world, and reads the process itself.
use Rattle.std.specs.Prelude.{ℕ, ◌+◌, ◌/◌, ◌%◌, ◌^◌, ◌==◌, Bool, true, ◌||◌, if◌then◌else◌, [], ◌∷◌, ◌++◌}
use Rattle.std.specs.Prelude.{length}
use Rattle.std.specs.Prelude.{Option, Some, None, slice_get, slice_set}
use Rattle.std.specs.List.{remove}
use Rattle.machine_state.specs.declared.fault.Fault.{Fault}
use Rattle.machine_state.specs.Memory.{Memory, place_of, with_byte}
use Rattle.machine_state.specs.declared.process.Task.{Task}
use Rattle.machine_state.specs.declared.process.Mode.{Mode}
use Rattle.machine_state.specs.declared.process.Mode.TheVariants.{Enabling}
use Rattle.machine_state.specs.declared.process.Condition.{Condition}
use Rattle.machine_state.specs.declared.process.Condition.TheVariants.{Ready, OnLink, Alternating}
use Rattle.machine_state.specs.declared.process.Channel.{Channel}
use Rattle.machine_state.specs.declared.link.InputLink.{InputLink}
use Rattle.machine_state.specs.declared.link.OutputLink.{OutputLink}
use Rattle.machine_state.specs.declared.link.Link.{Link}
use Rattle.machine_state.specs.declared.link.Link.TheVariants.{Zero, One, Two, Three}
use Rattle.machine_state.specs.World.{World, Queue}

-- ---- counters and faults

abbrev pub counted : World → World
counted w = record w { counters = record w.counters { executed = w.counters.executed + 1 } }

abbrev pub finished_where : Bool → World → World
finished_where b w = record w { counters = record w.counters { is_finished = w.counters.is_finished || b } }

abbrev pub faulty : Fault → World → World
faulty f w = record w { fault = Some f }

-- ---- processes

-- the process goes on as this task, and memory is this
abbrev pub put : ℕ → Task → Memory → World → World
put p task memory w = record w { tasks = slice_set w.tasks p task; memory = memory }

-- the process of this number becomes what this makes of it
abbrev pub on_task : ℕ → (Task → Task) → World → World
on_task p f w = elim (slice_get w.tasks p) [
  | None ↦ w
  | Some task ↦ record w { tasks = slice_set w.tasks p (f task) }
]

abbrev pub with_condition : ℕ → Condition → World → World
with_condition p condition w = on_task p (λ task. record task { condition = condition }) w

-- ---- the queue

-- no process is running
abbrev pub leave : World → World
leave w = record w { queue = record w.queue { running = None } }

-- to the back of the ready list
abbrev pub enqueue : ℕ → World → World
enqueue p w = record w { queue = record w.queue { ready = w.queue.ready ++ p ∷ [] } }

abbrev pub wake : ℕ → World → World
wake p w = enqueue p (with_condition p Ready w)

-- If no process is running, the ready process number pick, counted round the list, is taken out and runs.
abbrev pub picked : ℕ → Queue → Queue
picked pick queue = elim queue.running [
  | Some p ↦ queue
  | None ↦ elim queue.ready [
    | [] ↦ queue
    | p ∷ ps ↦
        let place = pick % length (p ∷ ps) in
        record { running = slice_get (p ∷ ps) place; ready = remove (p ∷ ps) place }
  ]
]

unfoldable pub dispatch : ℕ → World → World
dispatch pick w = record w { queue = picked pick w.queue }

-- ---- channels and links

abbrev pub link_index : Link → ℕ
link_index Zero = 0
link_index One = 1
link_index Two = 2
link_index Three = 3

-- the number of an address's data word
abbrev pub cell_of : ℕ → ℕ
cell_of address = place_of address / 4

abbrev pub channel_at : World → ℕ → Option Channel
channel_at w address = elim (slice_get w.channels (cell_of address)) [ None ↦ None | Some cell ↦ cell ]

abbrev pub with_channel : ℕ → Channel → World → World
with_channel address channel w = record w { channels = slice_set w.channels (cell_of address) (Some channel) }

abbrev pub with_input : ℕ → InputLink → World → World
with_input k link w = record w { links = record w.links { inputs = slice_set w.links.inputs k link } }

abbrev pub with_output : ℕ → OutputLink → World → World
with_output k link w = record w { links = record w.links { outputs = slice_set w.links.outputs k link } }

-- The byte goes into the buffer of the process that waits on the input link; with the last one it becomes ready.
abbrev pub fill_condition : ℕ → ℕ → ℕ → InputLink → Condition → World → World
fill_condition p k byte link (OnLink exchange done) w =
    let place = place_of ((exchange.address + done) % 2 ^ 32) in
    let filled = record w { memory = with_byte w.memory place (Some byte) } in
    if done + 1 == exchange.length
    then wake p (with_input k (record link { waiting = None }) filled)
    else with_condition p (OnLink exchange (done + 1)) filled
fill_condition p k byte link _ w = w

abbrev pub fill : ℕ → ℕ → ℕ → InputLink → World → World
fill p k byte link w =
    elim (slice_get w.tasks p) [ None ↦ w | Some task ↦ fill_condition p k byte link task.condition w ]

-- ---- alternations

-- Something that a process has enabled becomes ready. If the process waits for that, it becomes ready; if it is still
-- enabling, it will not wait.
abbrev pub rouse_enabling : ℕ → Mode → World → World
rouse_enabling p (Enabling is_ready) w = on_task p (λ task. record task { mode = Enabling true }) w
rouse_enabling p _ w = w

abbrev pub rouse_task : ℕ → Mode → Condition → World → World
rouse_task p mode Alternating w = wake p w
rouse_task p mode _ w = rouse_enabling p mode w

abbrev pub rouse : Option ℕ → World → World
rouse None w = w
rouse (Some p) w = elim (slice_get w.tasks p) [ None ↦ w | Some task ↦ rouse_task p task.mode task.condition w ]
