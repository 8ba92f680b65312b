-- What a call for an instruction did that asks something of others, against the turn of the definitions.
use Rattle.std.specs.Prelude.{◌≡◌, ⊤, ◌<◌, ◌+◌, ◌==◌, ◌&&◌, ◌||◌, Bool, true, false, is_some, Option, Some, None}
use Rattle.std.specs.Prelude.{Result, Ok, Err}
use Rattle.module_format.specs.Contents.{Contents}
use Rattle.machine_state.specs.declared.fault.Fault.{Fault}
use Rattle.machine_state.specs.declared.link.InputLink.{InputLink}
use Rattle.machine_state.specs.declared.process.Exchange.{Exchange}
use Rattle.machine_state.specs.Asking.{scheduled}
use Rattle.machine_state.specs.Site.{Local}
use Rattle.machine_state.specs.LocalStep.{holds_scheduling_words}
use Rattle.machine_state.specs.Holding.{Holding}
use Rattle.machine_state.specs.declared.process.Condition.{Condition}
use Rattle.machine_state.specs.World.{World}
use Rattle.machine_state.specs.declared.fault.FaultKind.TheVariants.{EndNotHeld}
use Rattle.machine_state.specs.declared.process.Channel.{Channel}
use Rattle.machine_state.specs.Moves.{counted, faulty, put, channel_at}
use Rattle.machine_state.specs.Turn.{Effect, Turn, answered, Here, failed, between}
use Rattle.machine_state.specs.Exchanges.{received_inside, sent_inside}
use Rattle.traffic.specs.declared.here.Here.{Here as Instance}
use Rattle.traffic.specs.declared.message.Message.{Message}
use Rattle.traffic.specs.declared.stop.Stop.{Stop}
use Rattle.traffic.specs.declared.stop.Stop.TheVariants as stops
use Rattle.traffic.specs.Moment.{IsSteady}

-- an instruction of a process in this module, whose last byte it is at
abbrev pub here_in : Contents → Instance → Here
here_in m h = record {
  contents = m;
  process = h.process;
  from = h.task;
  next = h.task.registers.at + 1;
  pick = h.pick;
}

-- what each call for a message asks for: its bytes, and the words that scheduling takes
pub record IsAsked (holding : Holding) (message : Message) : Type 0 where
  pub task : IsSteady message.here.task
  pub some : 0 < message.exchange.length
  pub words : holds_scheduling_words holding message.registers.workspace ≡ true

-- the turn of an instruction that asks for this message
abbrev pub turn_for : (Here → Exchange → Local → World → Turn) → Contents → Message → World → Turn
turn_for turn m message w =
    turn (here_in m message.here) message.exchange (scheduled message.registers w.memory) w

-- the world in which the process is after that instruction, in this condition
abbrev pub put_after : Message → Condition → World → World
put_after message condition w =
    let registers = between (message.here.task.registers.at + 1) message.registers in
    let task = record message.here.task { registers = registers; condition = condition } in
    put message.here.process task w.memory w

-- whether the byte that is kept on an input link is the whole message
abbrev pub is_complete : Option InputLink → Exchange → Bool
is_complete None e = false
is_complete (Some link) e = is_some link.kept && e.length == 1

-- a message over the internal channel at its address; there may be none
abbrev pub received_by_channel : Here → Exchange → Local → World → Turn
received_by_channel h e l w = elim (channel_at w e.channel) [
  | None ↦ failed h EndNotHeld w
  | Some channel ↦ received_inside h e channel l w
]

abbrev pub sent_by_channel : Here → Exchange → Local → World → Turn
sent_by_channel h e l w = elim (channel_at w e.channel) [
  | None ↦ failed h EndNotHeld w
  | Some channel ↦ sent_inside h e channel l w
]

-- whether some process waits at the internal channel
abbrev pub is_awaited : Option Channel → Bool
is_awaited None = false
is_awaited (Some channel) = is_some channel.waiting

-- whether some process waits at the internal channel, or has enabled it
abbrev pub is_wanted : Option Channel → Bool
is_wanted None = false
is_wanted (Some channel) = is_some channel.waiting || is_some channel.enabled

-- By the result: the instruction is executed, with the result's effect; or it is at fault, and nothing has changed.
abbrev pub SettlesBy : {A : Type 0} → (A → Effect) → World → World → Result A Fault → Turn → Type 0
SettlesBy effect before after (Ok answer) turn = turn ≡ answered (effect answer) (counted after)
SettlesBy effect before after (Err fault) turn =
    (turn ≡ record { world = faulty fault before; answer = Err fault }) × (after ≡ before)

-- the same with one effect
abbrev pub Settles : {A : Type 0} → World → World → Effect → Result A Fault → Turn → Type 0
Settles before after effect result turn = SettlesBy (λ answer. effect) before after result turn

-- The same where a process may become ready: or memory ran out, and nothing has changed.
abbrev pub SettlesIfRoom : {A : Type 0} → (A → Effect) → World → World → Result A Stop → Turn → Type 0
SettlesIfRoom effect before after (Ok answer) turn = turn ≡ answered (effect answer) (counted after)
SettlesIfRoom effect before after (Err (stops.Fault fault)) turn =
    (turn ≡ record { world = faulty fault before; answer = Err fault }) × (after ≡ before)
SettlesIfRoom effect before after (Err stops.Memory) turn = after ≡ before

-- what is true if memory ran out
abbrev pub OnMemory : {A : Type 0} → Result A Stop → Type 0 → Type 0
OnMemory (Ok answer) P = ⊤
OnMemory (Err (stops.Fault fault)) P = ⊤
OnMemory (Err stops.Memory) P = P
