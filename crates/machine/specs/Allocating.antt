-- At which events memory may run out: where a process that waits may become ready, where the running process may give
-- way after a jump, and where a branch starts.
use Rattle.std.specs.Prelude.{ℕ, ◌&&◌, ◌||◌, Bool, true, false, Some, None, is_none, slice_get}
use Rattle.prefix_decoder.specs.Functions.{fun_of, function_code, nibble}
use Rattle.prefix_decoder.specs.Operand.{with_nibble}
use Rattle.module_format.specs.Contents.{Contents}
use Rattle.machine_state.specs.declared.event.Event.{Event}
use Rattle.machine_state.specs.declared.event.Event.TheVariants.{Step, Arrive, Acknowledge}
use Rattle.machine_state.specs.World.{World}
use Rattle.machine_state.specs.Moves.{link_index}
use Rattle.machine_state.specs.Site.{Outcome, receives, sends, starts}
use Rattle.machine_state.specs.Turn.{Here, at_here}
use Rattle.traffic.specs.Arriving.{may_wake, has_sender}
use Rattle.traffic.specs.Delivering.{receiving_may_wake, sending_may_wake}
use Rattle.machine.specs.Applying.{outcome_at}

-- by what an instruction comes to: a message over an internal channel where a process waits, or which one has enabled,
-- or the start of a branch
abbrev pub outcome_may_allocate : Outcome → World → Bool
outcome_may_allocate (receives exchange l) w = receiving_may_wake exchange w
outcome_may_allocate (sends exchange l) w = sending_may_wake exchange w
outcome_may_allocate (starts to workspace l) w = true
outcome_may_allocate outcome w = false

-- by this byte of a process: a prefix does not allocate
abbrev pub byte_may_allocate : Here → ℕ → World → Bool
byte_may_allocate h byte w = elim (fun_of (function_code byte)) [
  | None ↦ false
  | Some f ↦ outcome_may_allocate (outcome_at h f (with_nibble h.from.registers.operand (nibble byte)) w) w
]

-- by the byte at which the process is
abbrev pub task_may_allocate : Here → World → Bool
task_may_allocate h w =
    elim (slice_get h.contents.code h.from.registers.at) [ None ↦ false | Some byte ↦ byte_may_allocate h byte w ]

-- by a Step: a process runs, and it may have to give way, or its byte may allocate
abbrev pub step_may_allocate : Contents → Bool → ℕ → World → Bool
step_may_allocate m slice pick w = elim w.queue.running [
  | None ↦ false
  | Some p ↦ elim (slice_get w.tasks p) [
    | None ↦ false
    | Some task ↦ slice || task_may_allocate (at_here m p task pick) w
  ]
]

abbrev pub event_may_allocate : Contents → Event → World → Bool
event_may_allocate m (Step slice pick) w = step_may_allocate m slice pick w
event_may_allocate m (Arrive link byte) w = may_wake (slice_get w.links.inputs (link_index link))
event_may_allocate m (Acknowledge link) w = has_sender (slice_get w.links.outputs (link_index link))

-- whether memory may run out at this event: not once the machine is at fault
abbrev pub may_allocate : Contents → World → Event → Bool
may_allocate m w e = is_none w.fault && event_may_allocate m e w
