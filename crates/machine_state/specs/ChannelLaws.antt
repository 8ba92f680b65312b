-- Who waits on an internal channel.
use Rattle.std.specs.Prelude.{◌≡◌, ℕ, ◌⊎◌, true, List, Option, Some, slice_get}
use Rattle.module_format.specs.Contents.{Contents}
use Rattle.machine_state.specs.declared.event.Event.{Event}
use Rattle.machine_state.specs.declared.process.Task.{Task}
use Rattle.machine_state.specs.declared.process.Channel.{Channel}
use Rattle.machine_state.specs.declared.process.Exchange.{Exchange}
use Rattle.machine_state.specs.declared.process.Condition.{Condition}
use Rattle.machine_state.specs.declared.process.Condition.TheVariants.{Sending, Receiving}
use Rattle.module_format.specs.declared.rows.Direction.{Direction}
use Rattle.module_format.specs.declared.rows.Direction.TheVariants.{In, Out}
use Rattle.module_format.specs.Keeping.{Keeps}
use Rattle.machine_state.specs.Holding.{has_end}
use Rattle.machine_state.specs.World.{Role, holding_at}
use Rattle.machine_state.specs.Moves.{cell_of}
use Rattle.machine_state.specs.Happens.{world_after}

-- a process waits on the channel in the data word k
pub record WaitsAt (tasks : List Task) (p k : ℕ) : Type 0 where
  pub task : Task
  pub here : slice_get tasks p ≡ Some task
  pub exchange : Exchange
  pub waits : (task.condition ≡ Sending exchange) ⊎ (task.condition ≡ Receiving exchange)
  pub at : cell_of exchange.channel ≡ k

-- a process that a channel says to wait there does wait there
abbrev pub HaveTheirWaiters : List Task → List (Option Channel) → Type 0
HaveTheirWaiters tasks channels =
    (k : ℕ) (channel : Channel) (p : ℕ) → slice_get channels k ≡ Some (Some channel) → channel.waiting ≡ Some p
    → WaitsAt tasks p k

abbrev pub ChannelsHaveTheirWaiters : Type 0
ChannelsHaveTheirWaiters = (m : Contents) (es : List Event)
    → HaveTheirWaiters (world_after m es).tasks (world_after m es).channels

-- ---- and who waits is recorded at the channel

-- a process in this condition waits to send, or to receive
abbrev pub WaitsTo : Direction → Condition → Exchange → Type 0
WaitsTo In condition e = condition ≡ Receiving e
WaitsTo Out condition e = condition ≡ Sending e

-- it is recorded at the channel, and holds that end of it
pub record IsRecorded (roles : List Role) (channels : List (Option Channel)) (p : ℕ) (direction : Direction)
    (e : Exchange) : Type 0 where
  pub channel : Channel
  pub here : slice_get channels (cell_of e.channel) ≡ Some (Some channel)
  pub waiting : channel.waiting ≡ Some p
  pub end : has_end (holding_at roles p) (record { address = e.channel; direction = direction }) ≡ true

abbrev pub AreRecorded : List Task → List Role → List (Option Channel) → Type 0
AreRecorded tasks roles channels =
    (p : ℕ) (task : Task) (direction : Direction) (e : Exchange) → slice_get tasks p ≡ Some task
    → WaitsTo direction task.condition e → IsRecorded roles channels p direction e

abbrev pub WhoWaitsIsRecorded : Type 0
WhoWaitsIsRecorded = (m : Contents) (es : List Event) → Keeps m
    → let w = world_after m es in AreRecorded w.tasks w.roles w.channels
