-- What is known of the words of a frame: what was written since the last label, over what the label's row says.
use Rattle.std.specs.Prelude.{◌≡◌, ◌&&◌, Bool, true, false, if◌then◌else◌, ℕ, ℤ, pos, ◌+ℤ◌, ◌-ℤ◌, ◌≤ℤ◌, ◌<ℤ◌}
use Rattle.std.specs.Prelude.{◌<◌, ◌/◌, List, length, get_or, vec_len, Option}
use Rattle.module_format.specs.Rows.{Fact}
use Rattle.module_format.specs.declared.rows.Parameter.{Parameter}
use Rattle.states.specs.declared.frame.Frame.{Frame}
use Rattle.states.specs.declared.known.LoopWord.{LoopWord}
use Rattle.states.specs.declared.known.LoopWord.TheVariants as words
use Rattle.states.specs.declared.known.WordFact.{WordFact}
use Rattle.states.specs.declared.known.WordFact.TheVariants.{Alone, Index, Count}
use Rattle.states.specs.Lookup.{facts_over}
use Rattle.states.specs.Blocks.{block_words, facts_left}
use Rattle.module_format.specs.Rows.{Entry}
use Rattle.states.specs.declared.remembered.Compared.{Compared}
use Rattle.states.specs.Below.{says}
use Rattle.states.specs.Remembered.{range_says}
use Rattle.states.specs.Remembering.{IsRemembered}
use Rattle.states.specs.State.{Facts, is_same_number, by_itself, said_of, entry_fact}
use Rattle.states.specs.declared.span.Leaving.{Leaving}
use Rattle.states.specs.Spans.{is_in_span, left_of}

-- the same but for how blocks of words were left since
abbrev pub over_facts : Frame → Facts
over_facts frame = facts_over frame.lo frame.row.now frame.overlay.written.items

abbrev pub frame_facts : Frame → Facts
frame_facts frame = facts_left frame.lo frame.by_block.kept.items (over_facts frame)

-- So it was at the time of a comparison with entries, and is still for what was not changed since.
abbrev pub IsKnown : Frame → List Entry → Compared → Type 0
IsKnown frame entries c =
    IsRemembered (entry_fact frame.row.now) frame.lo frame.remembered (frame_facts frame) entries c

-- so all words of a block were left since: what that says of what entries want of one is known still
abbrev pub IsLeftSince : Frame → ℕ → Compared → Option Leaving → Type 0
IsLeftSince frame number c range =
    (entries : List Entry) → IsKnown frame entries c → (k : ℤ) (n : ℕ) → k -ℤ frame.lo ≡ pos n
    → n / block_words ≡ number → (fact : Fact) (is_first : Bool) → entry_fact entries k ≡ said_of fact is_first
    → range_says range fact ≡ true → says (frame_facts frame k) (said_of fact is_first) ≡ true

-- what an entry wants is known of each word from the first up to the end, which is not included
abbrev pub EntryIsSaid : Frame → Entry → ℤ → ℤ → Type 0
EntryIsSaid frame entry first end =
    (k : ℤ) → first ≤ℤ k → k <ℤ end
    → says (frame_facts frame k) (said_of entry.fact (is_same_number entry.word k)) ≡ true

-- word k has this fact from now on, and the others what they had
abbrev pub with_alone : ℤ → Fact → Facts → Facts
with_alone k fact facts = λ j. if is_same_number j k then Alone fact else facts j

-- the fact is that of this word of a loop
abbrev pub is_loop_word : LoopWord → WordFact → Bool
is_loop_word words.Index (Index loop) = true
is_loop_word words.Count (Count loop) = true
is_loop_word _ _ = false

-- if word k is this word of a loop, it is what it says by itself from now on
abbrev pub parted : LoopWord → ℤ → Facts → Facts
parted which k facts =
    λ j. if is_loop_word which (facts j) && is_same_number j k then Alone (by_itself (facts j)) else facts j

-- each word of a span is left so, and the others what they are
abbrev pub with_span : ℤ → ℕ → Leaving → Facts → Facts
with_span first count leaving facts =
    λ k. if is_in_span first count k then Alone (left_of leaving (by_itself (facts k))) else facts k

-- word k can be written
pub record HasRoom (frame : Frame) (k : ℤ) : Type 0 where
  pub low : frame.lo ≤ℤ k
  pub high : k <ℤ (frame.lo +ℤ pos (vec_len frame.overlay.places))

-- the same words can be written, and comparisons with labels of the same module are remembered
pub record SameRoom (old new : Frame) : Type 0 where
  pub lo : new.lo ≡ old.lo
  pub len : vec_len new.overlay.places ≡ vec_len old.overlay.places
  pub same : new.remembered.«module».now ≡ old.remembered.«module».now

-- the words of parameters can be written
pub record HasRoomForAll (frame : Frame) (parameters : List Parameter) : Type 0 where
  pub each : (i : ℕ) → i < length parameters → (d : Parameter) → HasRoom frame (pos (get_or parameters i d).word)

-- so can the words of a span
pub record HasRoomForSpan (frame : Frame) (first : ℤ) (count : ℕ) : Type 0 where
  pub each : (k : ℤ) → first ≤ℤ k → k <ℤ (first +ℤ pos count) → HasRoom frame k
