-- Messages: over internal channels, where the first process to come waits for the second, and over links.
use Rattle.std.specs.Prelude.{ℕ, zero, suc, ◌+◌, ◌==◌, if◌then◌else◌, List, []}
use Rattle.std.specs.Prelude.{◌∷◌}
use Rattle.std.specs.Prelude.{Option, Some, None, slice_get}
use Rattle.std.specs.Option.{unwrap_or}
use Rattle.module_format.specs.Contents.{link_length}
use Rattle.machine_state.specs.declared.fault.FaultKind.TheVariants.{UnequalLengths, EndNotHeld}
use Rattle.machine_state.specs.declared.link.Link.{Link}
use Rattle.machine_state.specs.declared.link.Link.TheVariants.{Zero, One, Two, Three}
use Rattle.machine_state.specs.Memory.{Memory, place_of, byte_at, with_byte}
use Rattle.machine_state.specs.World.{output_word, input_word}
use Rattle.machine_state.specs.Turn.{Turn, ran, emitted, answered, Here, failed, continued, followed, waiting, left}
use Rattle.machine_state.specs.declared.process.Exchange.{Exchange}
use Rattle.machine_state.specs.declared.process.Condition.{Condition}
use Rattle.machine_state.specs.declared.process.Condition.TheVariants.{Ready, Sending, Receiving, OnLink}
use Rattle.machine_state.specs.declared.process.Channel.{Channel}
use Rattle.machine_state.specs.declared.link.InputLink.{InputLink}
use Rattle.machine_state.specs.Site.{Local}
use Rattle.machine_state.specs.LocalStep.{copied}
use Rattle.machine_state.specs.World.{World}
use Rattle.machine_state.specs.Moves.{counted, wake, channel_at}
use Rattle.machine_state.specs.Moves.{with_channel}
use Rattle.machine_state.specs.Moves.{with_input, with_output, rouse}

-- ---- internal channels

-- The sender's bytes go to the receiver, who is not the one that runs: it becomes ready, and the other goes on.
abbrev pub met : Here → ℕ → Exchange → Exchange → Channel → Local → World → World
met h other source to channel l w =
    let memory = copied l.memory (place_of source.address) (place_of to.address) source.length l.memory in
    wake other (with_channel source.channel (record channel { waiting = None })
    (continued h h.next (record l { memory = memory }) w))

abbrev pub waits_at : Here → Condition → ℕ → Channel → Local → World → World
waits_at h condition address channel l w =
    with_channel address (record channel { waiting = Some h.process }) (waiting h condition l w)

abbrev pub condition_of : World → ℕ → Condition
condition_of w p = elim (slice_get w.tasks p) [ None ↦ Ready | Some task ↦ task.condition ]

-- By what the process that waits on the channel wants.
abbrev pub received_from : Here → Exchange → Channel → Local → World → ℕ → Condition → Turn
received_from h e channel l w other (Sending sent) =
    if sent.length == e.length
    then followed h (answered ran (counted (met h other sent e channel l w))) w
    else failed h UnequalLengths w
received_from h e channel l w other _ = failed h EndNotHeld w

abbrev pub received_inside : Here → Exchange → Channel → Local → World → Turn
received_inside h e channel l w = elim channel.waiting [
  | None ↦ followed h (answered ran (left h (waits_at h (Receiving e) e.channel channel l w))) w
  | Some other ↦ received_from h e channel l w other (condition_of w other)
]

abbrev pub sent_to : Here → Exchange → Channel → Local → World → ℕ → Condition → Turn
sent_to h e channel l w other (Receiving wanted) =
    if wanted.length == e.length
    then followed h (answered ran (counted (met h other e wanted channel l w))) w
    else failed h UnequalLengths w
sent_to h e channel l w other _ = failed h EndNotHeld w

-- A sender that comes first makes ready what has enabled the channel.
abbrev pub sent_inside : Here → Exchange → Channel → Local → World → Turn
sent_inside h e channel l w = elim channel.waiting [
  | None ↦ followed h (answered ran (left h (rouse channel.enabled (waits_at h (Sending e) e.channel channel l w)))) w
  | Some other ↦ sent_to h e channel l w other (condition_of w other)
]

-- ---- links

-- the number of the link whose word is at this address, of those whose first has this word
abbrev pub link_from : ℕ → ℕ → Option ℕ
link_from first address =
    if address == first then Some 0
    else if address == first + 4 then Some 1
    else if address == first + 8 then Some 2
    else if address == first + 12 then Some 3
    else None

abbrev pub output_link : ℕ → Option ℕ
output_link address = link_from (output_word 0) address

abbrev pub input_link : ℕ → Option ℕ
input_link address = link_from (input_word 0) address

abbrev pub link_of : ℕ → Link
link_of k = if k == 0 then Zero else if k == 1 then One else if k == 2 then Two else Three

-- A byte that is kept on the link is the message's first. The process goes on if it is the last too.
abbrev pub received_kept : Here → ℕ → Exchange → InputLink → ℕ → Local → World → World
received_kept h k e link byte l w =
    let filled = record l { memory = with_byte l.memory (place_of e.address) (Some byte) } in
    if e.length == 1
    then counted (with_input k (record link { kept = None }) (continued h h.next filled w))
    else left h (with_input k (record link { kept = None; waiting = Some h.process }) (waiting h (OnLink e 1) filled w))

abbrev pub received_on : Here → ℕ → Exchange → InputLink → Local → World → World
received_on h k e link l w = elim link.kept [
  | None ↦ left h (with_input k (record link { waiting = Some h.process }) (waiting h (OnLink e 0) l w))
  | Some byte ↦ received_kept h k e link byte l w
]

abbrev pub received_outside : Here → ℕ → Exchange → Local → World → Turn
received_outside h k e l w = elim (slice_get w.links.inputs k) [
  | None ↦ failed h EndNotHeld w
  | Some link ↦
      if link_length h.contents (4 + k) == e.length
      then followed h (answered ran (received_on h k e link l w)) w
      else failed h UnequalLengths w
]

-- n bytes of memory, of which the undefined count as 0
abbrev pub bytes_at : Memory → ℕ → ℕ → List ℕ
bytes_at m place zero = []
bytes_at m place (suc n) = unwrap_or (byte_at m place) 0 ∷ bytes_at m (place + 1) n

-- The whole message goes out at once, and its sender waits until it is acknowledged.
abbrev pub sent_outside : Here → ℕ → Exchange → Local → World → Turn
sent_outside h k e l w =
    if link_length h.contents k == e.length
    then followed h (answered (emitted (link_of k) (bytes_at l.memory (place_of e.address) e.length))
    (left h (with_output k (record { waiting = Some h.process }) (waiting h (OnLink e 0) l w)))) w
    else failed h UnequalLengths w

-- ---- in and out

abbrev pub received : Here → Exchange → Local → World → Turn
received h e l w = elim (input_link e.channel) [
  | Some k ↦ received_outside h k e l w
  | None ↦ elim (channel_at w e.channel) [
    | None ↦ failed h EndNotHeld w
    | Some channel ↦ received_inside h e channel l w
  ]
]

abbrev pub sent : Here → Exchange → Local → World → Turn
sent h e l w = elim (output_link e.channel) [
  | Some k ↦ sent_outside h k e l w
  | None ↦ elim (channel_at w e.channel) [
    | None ↦ failed h EndNotHeld w
    | Some channel ↦ sent_inside h e channel l w
  ]
]
