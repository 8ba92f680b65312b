-- What each process has enabled, counted by process number.
use Rattle.std.specs.Prelude.{◌≡◌, ℕ, ◌+◌, ◌-◌, ◌<◌, ◌≤◌, nat_lt, Bool, true, false, List, length, Option, Some, None}
use Rattle.std.specs.Prelude.{slice_index, slice_set}
use Rattle.std.specs.List.{count_by}
use Rattle.machine_state.specs.declared.process.Channel.{Channel}
use Rattle.machine_state.specs.declared.link.InputLink.{InputLink}
use Rattle.machine_state.specs.Alternations.{is_by}

-- who has enabled the channel of a data word; there may be none
abbrev pub enabler_of : Option Channel → Option ℕ
enabler_of None = None
enabler_of (Some channel) = channel.enabled

-- how many links and channels this process has enabled
abbrev pub enabled_count : ℕ → List InputLink → List (Option Channel) → ℕ
enabled_count p inputs channels =
    count_by (λ (link : InputLink). is_by link.enabled p) inputs
    + count_by (λ cell. elim cell [ None ↦ false | Some channel ↦ is_by channel.enabled p ]) channels

-- these are the counts of the processes from 0 on
pub record AreCounts (counts : List ℕ) (inputs : List InputLink) (channels : List (Option Channel)) : Type 0 where
  pub each : (p : ℕ) → p < length counts → slice_index counts p ≡ enabled_count p inputs channels

-- where this holds, a process that is not counted has nothing enabled
pub record AreAll (holds : Bool) (counts : List ℕ) (inputs : List InputLink) (channels : List (Option Channel))
    : Type 0 where
  pub others : holds ≡ true → (p : ℕ) → length counts ≤ p → enabled_count p inputs channels ≡ 0

-- whether this process is counted, if there is one
abbrev pub is_counted : List ℕ → Option ℕ → Bool
is_counted counts None = true
is_counted counts (Some p) = nat_lt p (length counts)

-- ---- something that one process has enabled is enabled by another

-- one fewer for this process, if it is counted
abbrev pub one_fewer : Option ℕ → List ℕ → List ℕ
one_fewer None counts = counts
one_fewer (Some p) counts = slice_set counts p (slice_index counts p - 1)

-- one more
abbrev pub one_more : Option ℕ → List ℕ → List ℕ
one_more None counts = counts
one_more (Some p) counts = slice_set counts p (slice_index counts p + 1)

abbrev pub handed_over : Option ℕ → Option ℕ → List ℕ → List ℕ
handed_over before after counts = one_more after (one_fewer before counts)
