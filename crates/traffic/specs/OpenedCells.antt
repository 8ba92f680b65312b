-- Which data words have channels of a process, listed by its number.
use Rattle.std.specs.Prelude.{◌≡◌, ◌==◌, ℕ, Bool, true, false, List, [], Option, Some, None, slice_get, slice_set}
use Rattle.std.specs.List.{Contains}
use Rattle.std.specs.Global.{Vec}
use Rattle.machine_state.specs.declared.process.Channel.{Channel}
use Rattle.traffic.specs.declared.opened.OpenedCells.{OpenedCells}

-- whether the channel of a data word, if there is one, is this opener's
abbrev pub is_of : Option Channel → ℕ → Bool
is_of None opener = false
is_of (Some channel) opener = channel.opener == opener

abbrev pub words_of : Option (Vec ℕ) → List ℕ
words_of None = []
words_of (Some cells) = cells.items

-- the data words that are listed for a process
abbrev pub listed : List (Vec ℕ) → ℕ → List ℕ
listed lists p = words_of (slice_get lists p)

-- what is listed for a process stays listed
abbrev pub KeepsAll : List (Vec ℕ) → List (Vec ℕ) → Type 0
KeepsAll old new = (p k : ℕ) → Contains (listed old p) k → Contains (listed new p) k

-- where all are said to be listed, the data word of each channel is, for its opener
pub record AreListed (opened : OpenedCells) (channels : List (Option Channel)) : Type 0 where
  pub each : opened.are_all ≡ true → (k : ℕ) (channel : Channel) → slice_get channels k ≡ Some (Some channel)
      → Contains (listed opened.lists.items channel.opener) k

-- no channel is lost
abbrev pub KeepsListed : OpenedCells → OpenedCells → Type 0
KeepsListed old new = (channels : List (Option Channel)) → AreListed old channels → AreListed new channels

-- it does too once a data word, which had this channel or none, has one of this opener
abbrev pub ListsAt : ℕ → Option Channel → ℕ → OpenedCells → OpenedCells → Type 0
ListsAt k before opener old new = (channels : List (Option Channel)) (channel : Channel)
    → slice_get channels k ≡ Some before → channel.opener ≡ opener → AreListed old channels
    → AreListed new (slice_set channels k (Some channel))
