-- Runs of neighbouring channels of which a context has the ends.
use Rattle.std.specs.Prelude.{◌≡◌, ◌⊎◌, ℕ, ◌+◌, ◌<◌, ◌≤◌, ℤ, pos, ◌+ℤ◌, Bool, true, false, if◌then◌else◌, List}
use Rattle.std.specs.Prelude.{length, get_or, slice_get, ◌&&◌, is_some, Option, Some, None}
use Rattle.std.specs.List.{list_any}
use Rattle.module_format.specs.declared.rows.EndKind.{EndKind}
use Rattle.module_format.specs.declared.rows.EndKind.TheVariants as ends
use Rattle.module_format.specs.declared.rows.Direction.{Direction}
use Rattle.module_format.specs.declared.rows.EndRow.{EndRow}
use Rattle.module_format.specs.Contents.{Contents}
use Rattle.module_format.specs.Contexts.{context_at}
use Rattle.module_format.specs.Pars.{key_of}
use Rattle.certificate.specs.declared.runs.ChannelRun.{ChannelRun}
use Rattle.certificate.specs.Branches.{numbered_branch}
use Rattle.certificate.specs.Rights.{is_same_end, has_end, channel_length}

-- the end, in a direction, of the channel in word k
abbrev pub word_end : ℤ → Direction → EndRow
word_end k direction = record { kind = ends.FrameWord k; direction = direction }

-- what is known of the length of the channel in word k, where its end is held
abbrev pub held_length : (ℤ → Bool) → (ℤ → Option ℕ) → ℤ → Option (Option ℕ)
held_length is_held length_of k = if is_held k then Some (length_of k) else None

-- Of neighbouring channels that are numbered from 0 on, the ends of the first `run.count` are held, and these have one
-- length; the end of the next one is not held, or it has another length.
pub record IsFirstRun (held : ℕ → Option (Option ℕ)) (run : ChannelRun) : Type 0 where
  pub some : 1 ≤ run.count
  pub each : (i : ℕ) → i < run.count → held i ≡ Some run.length
  pub stops : held run.count ≡ Some run.length → ⊥

-- from word k on, the ends of `run.count` channels are held, which have one length; the end of the next one is not
-- held, or it has another length
abbrev pub IsRun : (ℤ → Option (Option ℕ)) → ℤ → ChannelRun → Type 0
IsRun held k run = IsFirstRun (λ i. held (k +ℤ pos i)) run

-- a context's ends in a direction
abbrev pub held_from : Contents → ℕ → Direction → ℤ → Option (Option ℕ)
held_from c n direction = held_length (λ k. has_end c n (word_end k direction)) (channel_length c n)

-- ---- elements of a parameter

-- the end, in a direction, of an element of the channels of the parameter with this number
abbrev pub element_end : ℤ → ℕ → Direction → EndRow
element_end number element direction = record { kind = ends.Parameter number element; direction = direction }

-- a context has the end, in a direction, of the element `i` elements further
abbrev pub has_element : Contents → ℕ → ℤ → ℕ → Direction → ℕ → Bool
has_element c n number element direction i = has_end c n (element_end number (element + i) direction)

-- of ends that are numbered from 0 on, the first `count` are held, and the next one is not
pub record IsRunCount (has : ℕ → Bool) (count : ℕ) : Type 0 where
  pub each : (i : ℕ) → i < count → has i ≡ true
  pub stops : has count ≡ false

-- ---- the runs of a branch

-- the channel `i` channels further
abbrev pub further : EndKind → ℕ → EndKind
further (ends.FrameWord word) i = ends.FrameWord (word +ℤ pos i)
further (ends.Parameter number element) i = ends.Parameter number (element + i)
further (ends.Link link) i = ends.Link (link + i)

-- the end of that channel in the same direction
abbrev pub end_further : EndRow → ℕ → EndRow
end_further e i = record { kind = further e.kind i; direction = e.direction }

-- one of these ends is this one
abbrev pub lists_end : List EndRow → EndRow → Bool
lists_end listed e = list_any (λ other. is_same_end (key_of other) (key_of e)) listed

-- the length of a channel in a word, where words have these; no other channel has its own
abbrev pub word_length : (ℤ → Option ℕ) → EndKind → Option ℕ
word_length length_of (ends.FrameWord word) = length_of word
word_length length_of kind = None

-- what is known of the length of the channel `i` channels further, where its end is held
abbrev pub held_further : (EndRow → Bool) → (ℤ → Option ℕ) → EndRow → ℕ → Option (Option ℕ)
held_further is_held length_of e i =
    if is_held (end_further e i) then Some (word_length length_of (further e.kind i)) else None

-- for each end, the run from its channel on
pub record AreRuns (length_of : ℤ → Option ℕ) (listed : List EndRow) (runs : List ChannelRun) : Type 0 where
  pub many : length runs ≡ length listed
  pub each : (i : ℕ) (e : EndRow) (d : ChannelRun) → slice_get listed i ≡ Some e
      → IsFirstRun (held_further (lists_end listed) length_of e) (get_or runs i d)

-- one of these ends is this one, and it has this run
pub record HasRun (listed : List EndRow) (runs : List ChannelRun) (e : EndRow) (run : ChannelRun) : Type 0 where
  pub at : ℕ
  pub end : slice_get listed at ≡ Some e
  pub is : slice_get runs at ≡ Some run

-- the count is one more than that of the next channel's run, if its messages have this length, and 1 if not
abbrev pub IsCount : Option ℕ → ChannelRun → ℕ → Type 0
IsCount len next count =
    ((next.length ≡ len) × (count ≡ next.count + 1)) ⊎ ((next.length ≡ len → ⊥) × (count ≡ 1))

-- context n is a branch, whose row lists this end
abbrev pub branch_lists : Contents → ℕ → EndRow → Bool
branch_lists c n e = is_some (context_at c n)
    && elim (numbered_branch c n) [ None ↦ false | Some found ↦ lists_end found.1.ends e ]
