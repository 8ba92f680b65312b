-- No process waits for messages in two places, and no two processes wait in one.
use Rattle.std.specs.Prelude.{◌≡◌, ℕ, List, Option, Some, None, slice_get}
use Rattle.module_format.specs.Contents.{Contents}
use Rattle.module_format.specs.declared.rows.Direction.{Direction}
use Rattle.module_format.specs.Keeping.{Keeps}
use Rattle.machine_state.specs.declared.event.Event.{Event}
use Rattle.machine_state.specs.declared.process.Task.{Task}
use Rattle.machine_state.specs.declared.process.Exchange.{Exchange}
use Rattle.machine_state.specs.declared.process.Condition.TheVariants.{OnLink}
use Rattle.machine_state.specs.World.{World}
use Rattle.machine_state.specs.Moves.{cell_of}
use Rattle.machine_state.specs.ChannelLaws.{WaitsTo}
use Rattle.machine_state.specs.Happens.{world_after}

-- where a process is recorded that waits for a message: at the channel in a data word, or at an input or output link
pub data Post : Type 0 where
  a_cell : ℕ → Post
  an_input : ℕ → Post
  an_output : ℕ → Post

-- who is recorded there
abbrev pub recorded_at : World → Post → Option ℕ
recorded_at w (a_cell k) = elim (slice_get w.channels k) [
  | None ↦ None
  | Some cell ↦ elim cell [ None ↦ None | Some channel ↦ channel.waiting ]
]
recorded_at w (an_input k) = elim (slice_get w.links.inputs k) [ None ↦ None | Some link ↦ link.waiting ]
recorded_at w (an_output k) = elim (slice_get w.links.outputs k) [ None ↦ None | Some link ↦ link.waiting ]

abbrev pub NobodyWaitsTwice : Type 0
NobodyWaitsTwice = (m : Contents) (es : List Event) (p : ℕ) (a b : Post)
    → recorded_at (world_after m es) a ≡ Some p → recorded_at (world_after m es) b ≡ Some p → a ≡ b

-- who waits on one channel, or on one link, is one process
pub record AreAlone (tasks : List Task) : Type 0 where
  pub on_channels : (p q : ℕ) (t u : Task) (d g : Direction) (e f : Exchange) → slice_get tasks p ≡ Some t
      → slice_get tasks q ≡ Some u → WaitsTo d t.condition e → WaitsTo g u.condition f
      → cell_of e.channel ≡ cell_of f.channel → p ≡ q
  pub on_links : (p q : ℕ) (t u : Task) (e f : Exchange) (i j : ℕ) → slice_get tasks p ≡ Some t
      → slice_get tasks q ≡ Some u → t.condition ≡ OnLink e i → u.condition ≡ OnLink f j → e.channel ≡ f.channel
      → p ≡ q

abbrev pub NoTwoWaitTogether : Type 0
NoTwoWaitTogether = (m : Contents) (es : List Event) → Keeps m
    → AreAlone (world_after m es).tasks
