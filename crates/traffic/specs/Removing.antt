-- Channels of one opener are no more.
use Rattle.std.specs.Prelude.{◌≡◌, ◌≢◌, ℕ, Bool, List, Option, Some, None, slice_get}
use Rattle.std.specs.List.{Contains}
use Rattle.machine_state.specs.declared.process.Channel.{Channel}
use Rattle.machine_state.specs.declared.link.InputLink.{InputLink}
use Rattle.machine_state.specs.Joins.{without_channels}
use Rattle.traffic.specs.EnabledCounts.{AreCounts, AreAll}

-- the channel of a data word, if there is one
abbrev pub channel_in : List (Option Channel) → ℕ → Option Channel
channel_in channels k = elim (slice_get channels k) [ None ↦ None | Some cell ↦ cell ]

-- some channels of this opener are no more, and what is enabled is counted as well as before
pub record Removes (opener : ℕ) (old new : List (Option Channel)) (counts counts' : List ℕ) : Type 0 where
  pub rest : without_channels opener new ≡ without_channels opener old
  pub kept : (k : ℕ) (c : Channel) → slice_get new k ≡ Some (Some c) → slice_get old k ≡ Some (Some c)
  pub counted : (inputs : List InputLink) → AreCounts counts inputs old → AreCounts counts' inputs new
  pub all : (holds : Bool) (inputs : List InputLink) → AreAll holds counts inputs old → AreAll holds counts' inputs new

-- the channel of a data word, if there is one, is not this opener's
abbrev pub IsGone : ℕ → List (Option Channel) → ℕ → Type 0
IsGone opener channels k = (c : Channel) → slice_get channels k ≡ Some (Some c) → c.opener ≢ opener

-- the channels of this opener are in some of these data words
abbrev pub AreIn : List ℕ → ℕ → List (Option Channel) → Type 0
AreIn cells opener channels = (k : ℕ) (c : Channel) → slice_get channels k ≡ Some (Some c) → c.opener ≡ opener
    → Contains cells k
