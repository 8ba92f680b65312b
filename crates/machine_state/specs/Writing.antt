-- Which bytes an event changes: those of the running process, and those of a process that receives.
use Rattle.std.specs.Prelude.{◌≡◌, ◌≢◌, ℕ, ◌+◌, ◌%◌, ◌^◌, ◌<◌, nat_le, nat_lt, ◌&&◌, Bool, false, Option, Some, None}
use Rattle.std.specs.Prelude.{Result, Ok, Err, length, slice_get}
use Rattle.prefix_decoder.specs.Functions.{fun_of, function_code, nibble}
use Rattle.prefix_decoder.specs.Operand.{with_nibble}
use Rattle.module_format.specs.Contents.{Contents}
use Rattle.machine_state.specs.declared.event.Event.TheVariants.{Step, Arrive, Acknowledge}
use Rattle.machine_state.specs.declared.fault.Fault.{Fault}
use Rattle.machine_state.specs.declared.link.Link.{Link}
use Rattle.machine_state.specs.declared.process.Condition.{Condition}
use Rattle.machine_state.specs.declared.process.Condition.TheVariants.{Receiving, OnLink}
use Rattle.machine_state.specs.declared.process.Exchange.{Exchange}
use Rattle.machine_state.specs.Memory.{Memory, place_of, byte_at}
use Rattle.machine_state.specs.Holding.{may_write}
use Rattle.machine_state.specs.World.{World, holding_at}
use Rattle.machine_state.specs.Site.{Outcome, sends}
use Rattle.machine_state.specs.LocalStep.{local_step}
use Rattle.machine_state.specs.Moves.{link_index, channel_at}
use Rattle.machine_state.specs.Turn.{Effect, idle, taken, at_here}
use Rattle.machine_state.specs.Exchanges.{output_link, condition_of}
use Rattle.machine_state.specs.Happens.{site_of, turn}

-- the outcome of the instruction that the next byte of the running process completes
abbrev pub outcome_of : Contents → World → Option Outcome
outcome_of m w = elim w.queue.running [
  | None ↦ None
  | Some p ↦ elim (slice_get w.tasks p) [
    | None ↦ None
    | Some task ↦ elim (slice_get m.code task.registers.at) [
      | None ↦ None
      | Some byte ↦ elim (fun_of (function_code byte)) [
        | None ↦ None
        | Some f ↦ Some (local_step (site_of (at_here m p task 0) w) f
            (with_nibble task.registers.operand (nibble byte))
            (record { registers = task.registers; memory = w.memory }))
      ]
    ]
  ]
]

-- a message that is sent, and what the receiver wants
pub record Delivery : Type 0 where
  pub sent : Exchange
  pub wanted : Exchange

abbrev pub delivered_to : Exchange → Condition → Option Delivery
delivered_to e (Receiving wanted) = Some (record { sent = e; wanted = wanted })
delivered_to e _ = None

-- what there is of the process that waits on the channel of a message: nothing where that is a link
abbrev pub of_waiting : {A : Type 0} → Option ℕ → World → Exchange → (Condition → Option A) → Option A
of_waiting (Some k) w e find = None
of_waiting None w e find = elim (channel_at w e.channel) [
  | None ↦ None
  | Some channel ↦ elim channel.waiting [ None ↦ None | Some other ↦ find (condition_of w other) ]
]

-- what is sent to a receiver that waits on the channel
abbrev pub delivery_on : World → Exchange → Option Delivery
delivery_on w e = of_waiting (output_link e.channel) w e (delivered_to e)

abbrev pub delivery_by : World → Outcome → Option Delivery
delivery_by w (sends e l) = delivery_on w e
delivery_by w _ = None

abbrev pub delivery : Contents → World → Option Delivery
delivery m w = elim (outcome_of m w) [ None ↦ None | Some o ↦ delivery_by w o ]

-- the place is in the buffer of the receiver
abbrev pub is_delivered : Option Delivery → ℕ → Bool
is_delivered None place = false
is_delivered (Some d) place =
    nat_le (place_of d.wanted.address) place && nat_lt place (place_of d.wanted.address + d.sent.length)

-- the running process may write the place
abbrev pub is_own : World → ℕ → Bool
is_own w place = elim w.queue.running [ None ↦ false | Some p ↦ may_write (holding_at w.roles p) place ]

-- Only own bytes change, and those of the receiver's buffer, which become those sent.
pub record WritesWell (own : ℕ → Bool) (d : Option Delivery) (old new : Memory) : Type 0 where
  pub size : length new ≡ length old
  pub others : (place : ℕ) → own place ≡ false → is_delivered d place ≡ false → byte_at new place ≡ byte_at old place
  pub become : (x : Delivery) → d ≡ Some x → (i : ℕ) → i < x.sent.length → place_of x.wanted.address + i < length old
      → byte_at new (place_of x.wanted.address + i) ≡ byte_at old (place_of x.sent.address + i)

-- by the result: a fault changes no byte, nor does a Step with no process running
abbrev pub StepWrites : (ℕ → Bool) → Option Delivery → Memory → Memory → Result Effect Fault → Type 0
StepWrites own d old new (Err f) = new ≡ old
StepWrites own d old new (Ok idle) = new ≡ old
StepWrites own d old new (Ok _) = WritesWell own d old new

abbrev pub StepsWriteOwn : Type 0
StepsWriteOwn = (m : Contents) (w : World) (slice : Bool) (pick : ℕ)
    → StepWrites (is_own w) (delivery m w) w.memory (turn m w (Step slice pick)).world.memory
    (turn m w (Step slice pick)).answer

-- ---- the other events

-- the place of the byte that a process which waits on a link wants next
abbrev pub wanted_by : Condition → Option ℕ
wanted_by (OnLink exchange done) = Some (place_of ((exchange.address + done) % 2 ^ 32))
wanted_by _ = None

abbrev pub wanted_on : World → Link → Option ℕ
wanted_on w link = elim (slice_get w.links.inputs (link_index link)) [
  | None ↦ None
  | Some input ↦ elim input.waiting [ None ↦ None | Some p ↦ wanted_by (condition_of w p) ]
]

-- An arrival changes at most the byte that the process which waits there wants next: it becomes the one that came.
pub record ArriveWrites (wanted : Option ℕ) (byte : ℕ) (old new : Memory) (answer : Result Effect Fault) : Type 0 where
  pub size : length new ≡ length old
  pub others : (place : ℕ) → wanted ≢ Some place → byte_at new place ≡ byte_at old place
  pub becomes : (place : ℕ) → wanted ≡ Some place → answer ≡ Ok taken → place < length old
      → byte_at new place ≡ Some byte

abbrev pub ArrivalsWriteOne : Type 0
ArrivalsWriteOne = (m : Contents) (w : World) (link : Link) (byte : ℕ)
    → ArriveWrites (wanted_on w link) byte w.memory (turn m w (Arrive link byte)).world.memory
    (turn m w (Arrive link byte)).answer

abbrev pub AcknowledgementsWriteNothing : Type 0
AcknowledgementsWriteNothing = (m : Contents) (w : World) (link : Link)
    → (turn m w (Acknowledge link)).world.memory ≡ w.memory
