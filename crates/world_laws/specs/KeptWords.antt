-- The words that open joins keep to themselves: their blocks, and the words of their channels.
use Rattle.std.specs.Prelude.{◌≡◌, ℕ, ◌*◌, ◌<◌, List, Some, None, slice_get}
use Rattle.module_format.specs.Contents.{Contents}
use Rattle.module_format.specs.Keeping.{Keeps}
use Rattle.machine_state.specs.declared.event.Event.{Event}
use Rattle.machine_state.specs.declared.process.Channel.{Channel}
use Rattle.machine_state.specs.Happens.{world_after}
use Rattle.machine_state.specs.JoinLookups.{opened_by}
use Rattle.machine_state.specs.Memory.{Memory, byte_at}
use Rattle.machine_state.specs.Ownership.{InBlock}
use Rattle.machine_state.specs.World.{Join}
use Rattle.world_laws.specs.Parked.{InWord}

-- a byte of the data that is undefined
pub record IsBlankData (m : Contents) (memory : Memory) (x : ℕ) : Type 0 where
  pub inside : x < 4 * m.data_words
  pub undefined : byte_at memory x ≡ None

-- so is each byte of the block of an open join
abbrev pub BlocksAreBlank : Type 0
BlocksAreBlank = (m : Contents) (es : List Event) (p : ℕ) (j : Join) (x : ℕ) → Keeps m
    → let w = world_after m es in opened_by w p ≡ Some j → InBlock j x → IsBlankData m w.memory x

-- and of the data word of an internal channel
abbrev pub ChannelWordsAreBlank : Type 0
ChannelWordsAreBlank = (m : Contents) (es : List Event) (k : ℕ) (c : Channel) (x : ℕ) → Keeps m
    → let w = world_after m es in slice_get w.channels k ≡ Some (Some c) → InWord (4 * k) x
    → IsBlankData m w.memory x
