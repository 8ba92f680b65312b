-- What an accepted module promises. The machine is that of docs/MACHINE.md: that a T414 does the same is not proved,
-- and priorities, timers and all other instructions are no part of it. Of std: `slice_get` past the end of a list gives
-- `None`, and `slice_set` there changes nothing.
use Rattle.std.specs.Prelude.{◌≡◌, ◌≢◌, ℕ, ◌+◌, ◌≤◌, ◌<◌, true, if◌then◌else◌, List, [], ◌∷◌, length, Some, None}
use Rattle.std.specs.Prelude.{Bool, is_some, slice_get}
use Rattle.module_format.specs.declared.rows.Direction.{Direction}
use Rattle.module_format.specs.declared.rows.Direction.TheVariants.{In, Out}
use Rattle.module_format.specs.Contents.{Contents}
use Rattle.machine_state.specs.declared.event.Event.{Event}
use Rattle.machine_state.specs.declared.event.Event.TheVariants.{Step, Arrive, Acknowledge}
use Rattle.machine_state.specs.declared.link.Link.{Link}
use Rattle.machine_state.specs.declared.link.InputLink.{InputLink}
use Rattle.machine_state.specs.declared.process.Channel.{Channel}
use Rattle.machine_state.specs.declared.process.Condition.TheVariants.{Sending, Receiving, OnLink}
use Rattle.machine_state.specs.declared.process.Exchange.{Exchange}
use Rattle.machine_state.specs.Memory.{Memory, place_of, byte_at}
use Rattle.machine_state.specs.Holding.{Holding, nothing, may_write, may_read, has_end}
use Rattle.machine_state.specs.World.{World, holding_at}
use Rattle.machine_state.specs.Moves.{link_index, channel_at}
use Rattle.machine_state.specs.Turn.{Turn}
use Rattle.machine_state.specs.Exchanges.{condition_of}
use Rattle.machine_state.specs.Happens.{turn, happens, world_after}
use Rattle.machine_state.specs.Apart.{AllApart}
use Rattle.world_laws.specs.Parked.{InBuffer}

-- an event that can happen: what arrives is a byte
abbrev pub IsEvent : Event → Type 0
IsEvent (Step slice pick) = Unit {0}
IsEvent (Arrive link byte) = byte < 256
IsEvent (Acknowledge link) = Unit {0}

abbrev pub AreEvents : List Event → Type 0
AreEvents [] = Unit {0}
AreEvents (e ∷ es) = IsEvent e × AreEvents es

-- ---- the bytes that an event reads and writes

-- What the running process holds. The root holds the data area to write and the constants to read, and every other
-- process a part of that. So nothing outside the module's memory is touched, and code and constants never change: that
-- is the law `holdings_lie_in_memory` of `world_laws`.
abbrev pub running_holding : World → Holding
running_holding w = elim w.queue.running [ None ↦ nothing | Some p ↦ holding_at w.roles p ]

-- A process waits on a channel of which the running process holds this end, so at the other one. A channel's address
-- names its data word.
pub record WaitsFor (w : World) (direction : Direction) (p : ℕ) : Type 0 where
  pub address : ℕ
  pub channel : Channel
  pub there : channel_at w address ≡ Some channel
  pub waits : channel.waiting ≡ Some p
  pub end : has_end (running_holding w) (record { address = address; direction = direction }) ≡ true

-- Which byte of memory an event may change: one that the running process may write, or one that a process that waits
-- for a message may write, in the buffer of that message. Memory here marks bytes as undefined, and an undefined byte
-- has no value that could change. On a machine without marks the words below a waiting process's workspace, the words
-- of channels and the block of a PAR do change: there the scheduler keeps its lists, messages, selections and counts.
-- No process can use what they have. In this machine, which keeps all of that beside memory, they are undefined from
-- the step on by which a process waits, or a PAR is opened, and nothing reads or writes them meanwhile; so they need no
-- exception.
pub data MayChange (w : World) (place : ℕ) : Event → Type 0 where
  -- its own
  is_own : {slice : Bool} {pick : ℕ} → may_write (running_holding w) place ≡ true → MayChange w place (Step slice pick)
  -- of a process that waits to receive on a channel on which the running process may send
  is_received : {slice : Bool} {pick : ℕ} (p : ℕ) (e : Exchange) → WaitsFor w Out p → condition_of w p ≡ Receiving e
      → InBuffer e place → may_write (holding_at w.roles p) place ≡ true → MayChange w place (Step slice pick)
  -- the next one of a process that waits to receive on the link: the byte that arrives
  arrives : {link : Link} {byte : ℕ} (input : InputLink) (p done : ℕ) (e : Exchange)
      → slice_get w.links.inputs (link_index link) ≡ Some input → input.waiting ≡ Some p
      → condition_of w p ≡ OnLink e done → place ≡ place_of e.address + done
      → may_write (holding_at w.roles p) place ≡ true → MayChange w place (Arrive link byte)

-- Which byte an event may read. An arrival reads none, nor does an acknowledgement. Instruction bytes are taken from
-- the module, not from memory, and do not count as read.
pub data MayRead (w : World) (place : ℕ) : Event → Type 0 where
  -- one that the running process may read
  is_readable : {slice : Bool} {pick : ℕ} → may_read (running_holding w) place ≡ true
      → MayRead w place (Step slice pick)
  -- of the message of a process that waits to send on a channel on which the running process may receive
  is_sent : {slice : Bool} {pick : ℕ} (p : ℕ) (e : Exchange) → WaitsFor w In p → condition_of w p ≡ Sending e
      → InBuffer e place → may_read (holding_at w.roles p) place ≡ true → MayRead w place (Step slice pick)

-- Two turns of worlds that differ in memory alone are said to do the same if they report the same, leave the same but
-- for memory, and bytes that were alike are alike. Nothing is said of a byte that differs beforehand: it may stay
-- different. So a byte that may not be read influences at most itself.
pub record DoTheSame (before other : Memory) (t u : Turn) : Type 0 where
  pub answer : u.answer ≡ t.answer
  pub world : u.world ≡ record t.world { memory = u.world.memory }
  pub bytes : (place : ℕ) → byte_at other place ≡ byte_at before place
      → byte_at u.world.memory place ≡ byte_at t.world.memory place

-- how many instruction bytes an event executes: a step of the running process one, and any other event none
abbrev pub cost : World → Event → ℕ
cost w (Step slice pick) = if is_some w.queue.running then 1 else 0
cost w _ = 0

-- ---- the promise

-- What holds of a world: no process is at fault, all that processes hold is apart, no more instruction bytes were
-- executed than the budget says, and the next event reads and writes only what it may. The machine tests each access,
-- use, end, length and order, and stops with one of the kinds of `FaultKind`. That it never does is the heart of the
-- promise: a machine that leaves out the tests does the same. The budget is what the module's header asks for: whether
-- that is acceptable is for the host to say. Nothing is promised of progress: processes may wait for each other for
-- ever, and a verdict that refuses every module would keep this.
pub record IsWell (m : Contents) (w : World) : Type 0 where
  pub no_fault : w.fault ≡ None
  pub apart : AllApart w.roles w.channels
  pub within_budget : w.counters.executed ≤ m.budget
  -- Whatever happens next changes only bytes of `MayChange`. A write that leaves a byte as it was is no change here.
  -- The running process's own accesses are tested before they are done, so `no_fault` covers those too; that the buffer
  -- of a waiting process stays its own is the law `buffers_are_held` of `world_laws`.
  pub writes : (e : Event) (place : ℕ) → byte_at (happens m w e).memory place ≢ byte_at w.memory place
      → MayChange w place e
  -- it reads only bytes of `MayRead`: with any others elsewhere it does the same
  pub reads : (e : Event) (other : Memory) → length other ≡ length w.memory
      → ((place : ℕ) → MayRead w place e → byte_at other place ≡ byte_at w.memory place)
      → DoTheSame w.memory other (turn m w e) (turn m (record w { memory = other }) e)
  -- And the count of executed bytes rises by one if it is a step of a process, else not at all. So no step is silently
  -- left out: the cases of `step_turn` in which a running process does nothing never come.
  pub costs : (e : Event) → IsEvent e → (happens m w e).counters.executed ≡ w.counters.executed + cost w e

-- The promise: whatever happens, in whatever order.
abbrev pub RunsWell : Contents → Type 0
RunsWell m = (events : List Event) → AreEvents events → IsWell m (world_after m events)
