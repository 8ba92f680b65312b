-- What processes have enabled: who has enabled something is in an alternation and holds that, and nothing is missed.
use Rattle.std.specs.Prelude.{◌≡◌, ℕ, ◌⊎◌, ℤ, Bool, true, false, List, Option, Some, None, slice_get}
use Rattle.module_format.specs.Contents.{Contents}
use Rattle.machine_state.specs.declared.event.Event.{Event}
use Rattle.machine_state.specs.declared.link.InputLink.{InputLink}
use Rattle.machine_state.specs.declared.process.Task.{Task}
use Rattle.machine_state.specs.declared.process.Channel.{Channel}
use Rattle.machine_state.specs.declared.process.Exchange.{Exchange}
use Rattle.machine_state.specs.declared.process.Mode.{Mode}
use Rattle.machine_state.specs.declared.process.Mode.TheVariants.{Enabling, Disabling}
use Rattle.machine_state.specs.declared.process.Condition.{Condition}
use Rattle.machine_state.specs.declared.process.Condition.TheVariants.{Ready, Sending, Alternating}
use Rattle.module_format.specs.declared.rows.Direction.TheVariants.{In}
use Rattle.module_format.specs.Keeping.{Keeps}
use Rattle.machine_state.specs.Holding.{has_end}
use Rattle.machine_state.specs.World.{World, Role, holding_at, input_word}
use Rattle.machine_state.specs.Moves.{cell_of}
use Rattle.machine_state.specs.Happens.{turn, world_after}

-- a process has enabled a channel or a link
pub data HasEnabled (channels : List (Option Channel)) (inputs : List InputLink) (p : ℕ) : Type 0 where
  a_channel : (k : ℕ) (channel : Channel) → slice_get channels k ≡ Some (Some channel) → channel.enabled ≡ Some p
      → HasEnabled channels inputs p
  a_link : (k : ℕ) (link : InputLink) → slice_get inputs k ≡ Some link → link.enabled ≡ Some p
      → HasEnabled channels inputs p

abbrev pub Enables : Mode → Type 0
Enables mode = (is_ready : Bool) × (mode ≡ Enabling is_ready)

abbrev pub Disables : Mode → Type 0
Disables mode = (selection : Option ℤ) × (mode ≡ Disabling selection)

-- it enables, or waits, or disables
abbrev pub Alternates : Mode → Condition → Type 0
Alternates mode condition =
    (Enables mode × (condition ≡ Ready)) ⊎ (Disables mode × ((condition ≡ Ready) ⊎ (condition ≡ Alternating)))

pub record IsInAlternation (tasks : List Task) (p : ℕ) : Type 0 where
  pub task : Task
  pub here : slice_get tasks p ≡ Some task
  pub alternates : Alternates task.mode task.condition

abbrev pub AllAlternate : List Task → List (Option Channel) → List InputLink → Type 0
AllAlternate tasks channels inputs = (p : ℕ) → HasEnabled channels inputs p → IsInAlternation tasks p

abbrev pub WhoEnabledAlternates : Type 0
WhoEnabledAlternates = (m : Contents) (es : List Event)
    → let w = world_after m es in AllAlternate w.tasks w.channels w.links.inputs

-- ---- nothing that is enabled is ready while its process waits for that, or may yet wait

abbrev pub MayWait : Task → Type 0
MayWait task = (task.mode ≡ Enabling false) ⊎ (task.condition ≡ Alternating)

-- something that a process has enabled has a sender or a byte
pub data HasReady (tasks : List Task) (channels : List (Option Channel)) (inputs : List InputLink) (p : ℕ) : Type 0
  where
    a_sender : (k : ℕ) (channel : Channel) (q : ℕ) (sender : Task) (e : Exchange)
        → slice_get channels k ≡ Some (Some channel) → channel.enabled ≡ Some p → channel.waiting ≡ Some q
        → slice_get tasks q ≡ Some sender → sender.condition ≡ Sending e → HasReady tasks channels inputs p
    a_byte : (k : ℕ) (link : InputLink) (byte : ℕ) → slice_get inputs k ≡ Some link → link.enabled ≡ Some p
        → link.kept ≡ Some byte → HasReady tasks channels inputs p

abbrev pub NothingIsReady : List Task → List (Option Channel) → List InputLink → Type 0
NothingIsReady tasks channels inputs =
    (p : ℕ) (task : Task) → slice_get tasks p ≡ Some task → MayWait task → HasReady tasks channels inputs p → ⊥

abbrev pub WhoMayWaitHasNothingReady : Type 0
WhoMayWaitHasNothingReady = (m : Contents) (es : List Event)
    → let w = world_after m es in NothingIsReady w.tasks w.channels w.links.inputs

-- ---- what is enabled is held by the process that has enabled it, so that no other process receives there

-- it holds the end of the channel, or of the link, to receive by
pub record EnabledIsHeld (roles : List Role) (channels : List (Option Channel)) (inputs : List InputLink) : Type 0
  where
    pub at_channels : (k : ℕ) (channel : Channel) (p : ℕ) → slice_get channels k ≡ Some (Some channel)
        → channel.enabled ≡ Some p
        → (a : ℕ) × (cell_of a ≡ k) × (has_end (holding_at roles p) (record { address = a; direction = In }) ≡ true)
    pub at_links : (k : ℕ) (link : InputLink) (p : ℕ) → slice_get inputs k ≡ Some link → link.enabled ≡ Some p
        → has_end (holding_at roles p) (record { address = input_word k; direction = In }) ≡ true

-- a process waits to send
pub record IsSending (tasks : List Task) (p : ℕ) : Type 0 where
  pub task : Task
  pub here : slice_get tasks p ≡ Some task
  pub exchange : Exchange
  pub sends : task.condition ≡ Sending exchange

-- a process that waits on a channel that is enabled is its sender, and no process waits on an input link that is
pub record NobodyElseReceives (tasks : List Task) (channels : List (Option Channel)) (inputs : List InputLink) : Type 0
  where
    pub at_channels : (k : ℕ) (channel : Channel) (p q : ℕ) → slice_get channels k ≡ Some (Some channel)
        → channel.enabled ≡ Some p → channel.waiting ≡ Some q → IsSending tasks q
    pub at_links : (k : ℕ) (link : InputLink) (p : ℕ) → slice_get inputs k ≡ Some link → link.enabled ≡ Some p
        → link.waiting ≡ None

abbrev pub WhoEnabledHolds : Type 0
WhoEnabledHolds = (m : Contents) (es : List Event) → Keeps m
    → let w = world_after m es in
    EnabledIsHeld w.roles w.channels w.links.inputs × NobodyElseReceives w.tasks w.channels w.links.inputs

-- ---- one event: what is enabled and has a sender or a byte keeps it until it is disabled

-- the channel in a data word is enabled by this process, or by none, and another one waits there to send this
pub record HasSender (tasks : List Task) (channels : List (Option Channel)) (k : ℕ) (enabled : Option ℕ) (q : ℕ)
    (e : Exchange) : Type 0 where
  pub channel : Channel
  pub here : slice_get channels k ≡ Some (Some channel)
  pub by : channel.enabled ≡ enabled
  pub waiting : channel.waiting ≡ Some q
  pub sender : Task
  pub there : slice_get tasks q ≡ Some sender
  pub sends : sender.condition ≡ Sending e

-- the same of an input link on which a byte is kept
pub record HasByte (inputs : List InputLink) (k : ℕ) (enabled : Option ℕ) (byte : ℕ) : Type 0 where
  pub link : InputLink
  pub here : slice_get inputs k ≡ Some link
  pub by : link.enabled ≡ enabled
  pub kept : link.kept ≡ Some byte

-- The sender or the byte stays. So does who has enabled this, unless it is the process that runs, which disables it.
pub record ReadyStays (w after : World) : Type 0 where
  pub senders : (k p q : ℕ) (e : Exchange) → HasSender w.tasks w.channels k (Some p) q e
      → HasSender after.tasks after.channels k (Some p) q e
      ⊎ ((w.queue.running ≡ Some p) × HasSender after.tasks after.channels k None q e)
  pub bytes : (k p byte : ℕ) → HasByte w.links.inputs k (Some p) byte → HasByte after.links.inputs k (Some p) byte
      ⊎ ((w.queue.running ≡ Some p) × HasByte after.links.inputs k None byte)

abbrev pub WhatIsReadyStays : Type 0
WhatIsReadyStays = (m : Contents) (es : List Event) (e : Event) → Keeps m
    → let w = world_after m es in ReadyStays w (turn m w e).world
