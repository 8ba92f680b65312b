-- What is so of a process that does not run but will, and of one in an alternation: its registers, the words below its
-- workspace and the buffer of its message.
use Rattle.std.specs.Prelude.{◌≡◌, ◌≢◌, ⊤, ℕ, ◌+◌, ◌<◌, ◌≤◌, ◌⊎◌, pos, true, List, Option, Some, None, slice_get}
use Rattle.module_format.specs.Contents.{Contents}
use Rattle.module_format.specs.Keeping.{Keeps}
use Rattle.module_format.specs.Stack.{of_empty}
use Rattle.machine_state.specs.declared.event.Event.{Event}
use Rattle.machine_state.specs.declared.process.Condition.{Condition}
use Rattle.machine_state.specs.declared.process.Condition.TheVariants.{Ready, Sending, Receiving, OnLink, Stopped}
use Rattle.machine_state.specs.declared.process.Condition.TheVariants.{Ended}
use Rattle.machine_state.specs.declared.process.Exchange.{Exchange}
use Rattle.machine_state.specs.declared.process.Mode.{Mode}
use Rattle.machine_state.specs.declared.process.Registers.{Registers}
use Rattle.machine_state.specs.declared.process.Task.{Task}
use Rattle.machine_state.specs.EnabledLaws.{Enables, Disables}
use Rattle.machine_state.specs.Happens.{world_after}
use Rattle.machine_state.specs.Holding.{Holding, may_write, may_read}
use Rattle.machine_state.specs.Memory.{Memory, place_of, scheduling_word, byte_at}
use Rattle.machine_state.specs.Ownership.{IsAmong}
use Rattle.machine_state.specs.Waiting.{IsAwaited}
use Rattle.machine_state.specs.World.{World, holding_at, input_word}

-- ---- who is parked

-- it will go on: it has neither stopped nor ended
abbrev pub IsLive : Condition → Type 0
IsLive Stopped = ⊥
IsLive Ended = ⊥
IsLive _ = ⊤

-- a live process that does not run: it waits for its turn, a message or a guard
pub record IsParked (w : World) (p : ℕ) (task : Task) : Type 0 where
  pub here : slice_get w.tasks p ≡ Some task
  pub live : IsLive task.condition
  pub aside : w.queue.running ≡ Some p → ⊥

-- between alt and altend, running or not
abbrev pub IsInside : Mode → Type 0
IsInside mode = Enables mode ⊎ Disables mode

pub record IsAlternating (w : World) (p : ℕ) (task : Task) : Type 0 where
  pub here : slice_get w.tasks p ≡ Some task
  pub inside : IsInside task.mode

-- ---- its words

-- the four bytes of the word at a place
abbrev pub InWord : ℕ → ℕ → Type 0
InWord place x = (place ≤ x) × (x < place + 4)

-- a byte of the three words below a workspace that scheduling takes
abbrev pub IsSchedulingPlace : ℕ → ℕ → Type 0
IsSchedulingPlace workspace x = (k : ℕ) × (k < 3) × InWord (place_of (scheduling_word workspace k)) x

-- a byte that is one's own to write, and undefined
pub record IsBlank (h : Holding) (memory : Memory) (x : ℕ) : Type 0 where
  pub own : may_write h x ≡ true
  pub undefined : byte_at memory x ≡ None

abbrev pub HasWords : Holding → Memory → ℕ → Type 0
HasWords h memory workspace = (x : ℕ) → IsSchedulingPlace workspace x → IsBlank h memory x

-- the word at the workspace, where what is selected is kept
abbrev pub HasSelection : Holding → Memory → ℕ → Type 0
HasSelection h memory workspace = (x : ℕ) → InWord (place_of workspace) x → IsBlank h memory x

-- ---- its registers

pub record IsAtRest (r : Registers) : Type 0 where
  pub stack : r.stack ≡ of_empty None
  pub operand : r.operand ≡ pos 0

-- ---- the buffer of its message

-- the message that a process in this condition waits for
abbrev pub message_of : Condition → Option Exchange
message_of (Sending e) = Some e
message_of (Receiving e) = Some e
message_of (OnLink e done) = Some e
message_of _ = None

-- it receives that message: on a channel, or on an input link
pub data IsReceiving (c : Condition) (e : Exchange) : Type 0 where
  on_channel : c ≡ Receiving e → IsReceiving c e
  on_link : (k done : ℕ) → c ≡ OnLink e done → e.channel ≡ input_word k → IsReceiving c e

abbrev pub InBuffer : Exchange → ℕ → Type 0
InBuffer e x = (place_of e.address ≤ x) × (x < place_of e.address + e.length)

-- the buffer may be read, or written where the process receives, and does not meet the words that scheduling takes
pub record HasBuffer (h : Holding) (workspace : ℕ) (c : Condition) : Type 0 where
  pub readable : (e : Exchange) (x : ℕ) → message_of c ≡ Some e → InBuffer e x → may_read h x ≡ true
  pub writable : (e : Exchange) (x : ℕ) → IsReceiving c e → InBuffer e x → may_write h x ≡ true
  pub beside : (e : Exchange) (x : ℕ) → message_of c ≡ Some e → InBuffer e x → IsSchedulingPlace workspace x → ⊥

-- ---- in every world that a list of events leads to

-- who waits for its turn is parked, and so is who waits for anything else
abbrev pub WhoIsReadyIsParked : Type 0
WhoIsReadyIsParked = (m : Contents) (es : List Event) (p : ℕ)
    → let w = world_after m es in IsAmong p w.queue.ready → (task : Task) × IsParked w p task

abbrev pub WhoWaitsIsParked : Type 0
WhoWaitsIsParked = (m : Contents) (es : List Event) (p : ℕ) (task : Task)
    → let w = world_after m es in slice_get w.tasks p ≡ Some task → IsLive task.condition → task.condition ≢ Ready
    → IsParked w p task

-- who is parked has no defined register, and is between two instructions
abbrev pub WhoIsParkedIsAtRest : Type 0
WhoIsParkedIsAtRest = (m : Contents) (es : List Event) (p : ℕ) (task : Task) → Keeps m
    → IsParked (world_after m es) p task → IsAtRest task.registers

-- who is parked, or in an alternation, has the words below its workspace, which are undefined
abbrev pub ParkedWordsAreBlank : Type 0
ParkedWordsAreBlank = (m : Contents) (es : List Event) (p : ℕ) (task : Task) → Keeps m
    → let w = world_after m es in IsParked w p task ⊎ IsAlternating w p task
    → HasWords (holding_at w.roles p) w.memory task.registers.workspace

-- so is the word at the workspace from altwt to altend
abbrev pub SelectionsAreBlank : Type 0
SelectionsAreBlank = (m : Contents) (es : List Event) (p : ℕ) (task : Task) → Keeps m
    → let w = world_after m es in slice_get w.tasks p ≡ Some task → Disables task.mode
    → HasSelection (holding_at w.roles p) w.memory task.registers.workspace

-- who waits for a message has its buffer
abbrev pub BuffersAreHeld : Type 0
BuffersAreHeld = (m : Contents) (es : List Event) (p : ℕ) (task : Task) → Keeps m
    → let w = world_after m es in slice_get w.tasks p ≡ Some task
    → HasBuffer (holding_at w.roles p) task.registers.workspace task.condition

-- the next byte on an input link goes to the buffer of the process that waits there, after those that have come
abbrev pub ArrivalsFollow : Type 0
ArrivalsFollow = (m : Contents) (es : List Event) (k place : ℕ) → Keeps m → (x : IsAwaited (world_after m es) k place)
    → place ≡ place_of x.waits.exchange.address + x.waits.done

-- no two of those who are parked, or in an alternation, have one workspace
abbrev pub WorkspacesDiffer : Type 0
WorkspacesDiffer = (m : Contents) (es : List Event) (p q : ℕ) (t u : Task) → Keeps m → p ≢ q
    → let w = world_after m es in IsParked w p t ⊎ IsAlternating w p t → IsParked w q u ⊎ IsAlternating w q u
    → t.registers.workspace ≢ u.registers.workspace
