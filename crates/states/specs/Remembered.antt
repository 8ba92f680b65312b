-- What is remembered of comparisons with labels: what a label wants is known still of words that were not changed
-- since.
use Rattle.std.specs.Prelude.{◌≡◌, ◌≤◌, ◌<◌, ℕ, ◌+◌, ◌-◌, ◌*◌, ◌/◌, ℤ, pos, negsuc, ◌+ℤ◌, ◌-ℤ◌, Bool, true, false}
use Rattle.std.specs.Prelude.{◌&&◌, ◌||◌, ◌==◌, nat_le, nat_lt, is_none, List, get_or, Option, Some, None, sum_by}
use Rattle.std.specs.Prelude.{if◌then◌else◌}
use Rattle.std.specs.List.{list_all, slice_get}
use Rattle.std.proofs.Props.{props}
use Rattle.module_format.specs.Contents.{Contents, Label}
use Rattle.module_format.specs.Rows.{Fact, Entry}
use Rattle.module_format.specs.declared.fact.Fact.TheVariants.{Loop, Number, Unknown}
use Rattle.states.specs.declared.known.WordFact.{WordFact}
use Rattle.states.specs.declared.known.WordFact.TheVariants.{Alone}
use Rattle.states.specs.declared.remembered.Changes.{Changes}
use Rattle.states.specs.declared.remembered.Compared.{Compared}
use Rattle.states.specs.declared.span.Leaving.{Leaving}
use Rattle.states.specs.declared.span.Leaving.TheVariants.{Become, Widen}
use Rattle.states.specs.State.{Facts, entry_fact}
use Rattle.states.specs.Below.{implies, says, are_alike, is_whole, price}
use Rattle.states.specs.Blocks.{block_words}
use Rattle.states.specs.Comparing.{SaysAll, loop_of}

-- ---- comparisons

-- no comparison
abbrev pub never : Compared
never = record { time = 0; paid = 0; is_plain = false }

-- the label of a number
abbrev pub numbered_label : Contents → ℕ → Option Label
numbered_label m label = slice_get m.labels label

-- the last comparison with the label of a number
abbrev pub compared_at : List Compared → ℕ → Compared
compared_at compared label = get_or compared label never

-- ---- times

-- when a block of words was last changed
abbrev pub time_of : List ℕ → ℕ → ℕ
time_of times number = get_or times number 0

-- when the block of an index was
abbrev pub index_time : List ℕ → ℤ → ℕ
index_time times (pos index) = time_of times (index / block_words)
index_time times (negsuc n) = 0

-- when the block of a word was, where word `lo` has index 0
abbrev pub word_time : ℤ → List ℕ → ℤ → ℕ
word_time lo times k = index_time times (k -ℤ lo)

-- of a block nothing is kept
abbrev pub no_changes : Changes
no_changes = record { written = 0; left = None }

-- a first change was made since the state began as a label's, and by a time
abbrev pub is_by : ℕ → ℕ → ℕ → Bool
is_by began time first = nat_le began first && nat_le first time

-- when the first change was, once there is one more: it stays if it was made since the state began as a label's
abbrev pub first_since : ℕ → ℕ → ℕ → ℕ
first_since began first time = if nat_lt first began then time else first

-- the word of an index was changed by a time: it was written by itself by then, or its block was left
abbrev pub index_changed : ℕ → List ℕ → List ℕ → ℕ → ℤ → Bool
index_changed began firsts lefts time (pos index) =
    is_by began time (time_of firsts index) || is_by began time (time_of lefts (index / block_words))
index_changed began firsts lefts time (negsuc n) = false

-- how a block's words were changed
abbrev pub changes_of : List Changes → ℕ → Changes
changes_of blocks number = get_or blocks number no_changes

-- when a word of the block of an index was last written by itself, or all became one fact
abbrev pub written_at : List Changes → ℤ → ℕ
written_at blocks (pos index) = (changes_of blocks (index / block_words)).written
written_at blocks (negsuc n) = 0

-- so of the block of a word
abbrev pub written_in : ℤ → List Changes → ℤ → ℕ
written_in lo blocks k = written_at blocks (k -ℤ lo)

-- how all words of a block were left since one was last written: in no way, if the block was not changed since the
-- state began as a label's
abbrev pub leaving_since : ℕ → ℕ → Changes → Option Leaving
leaving_since began time changes = if nat_lt time began then None else changes.left

-- so of the block of an index
abbrev pub leaving_of_index : ℕ → List ℕ → List Changes → ℤ → Option Leaving
leaving_of_index began times blocks (pos index) =
    leaving_since began (time_of times (index / block_words)) (changes_of blocks (index / block_words))
leaving_of_index began times blocks (negsuc n) = None

-- and of a word
abbrev pub range_in : ℕ → ℤ → List ℕ → List Changes → ℤ → Option Leaving
range_in began lo times blocks k = leaving_of_index began times blocks (k -ℤ lo)

-- there is a time for each block of this number of words, also for one that is not whole
unfoldable pub HasTimes : ℕ → ℕ → Type 0
HasTimes words times = (words < times * block_words) × (times * block_words ≤ words + block_words)

pub HasTimes-prop : (words times : ℕ) → IsProp (HasTimes words times)
unfolding HasTimes
HasTimes-prop words times = hlevel props

-- ---- what a label wants

-- no entry is of a loop
abbrev pub wants_no_loop : List Entry → Bool
wants_no_loop entries = list_all (λ entry. is_none (loop_of entry.fact)) entries

-- each entry of a loop is about two words
abbrev pub are_loops_of_two : List Entry → Bool
are_loops_of_two entries = list_all (λ entry. is_none (loop_of entry.fact) || (entry.span == 2)) entries

-- no entry's loop is half known, where these words are by themselves
abbrev pub whole_by : (ℤ → Bool) → Entry → Bool
whole_by alone entry = elim entry.fact [
  | Loop base count weight ↦ are_alike (alone entry.word) (alone (entry.word +ℤ pos 1))
  | _ ↦ true
]

-- what is paid for an entry of which what it wants is known: its loop is entered if its words are by themselves
abbrev pub due_by : (ℤ → Bool) → Entry → ℕ
due_by alone entry = elim entry.fact [
  | Loop base count weight ↦ if alone entry.word then weight * (count - 1) else 0
  | _ ↦ 0
]

-- What is due for an entry beside what was paid, where its words were by themselves or are now.
pub record IsDueSince (was now : ℤ → Bool) (entry : Entry) (due : ℕ) : Type 0 where
  pub whole : whole_by was entry ≡ true → whole_by now entry ≡ true
  pub paid : due_by now entry ≡ due_by was entry + due

-- so for all entries
pub record AreDueSince (was now : ℤ → Bool) (entries : List Entry) (due : ℕ) : Type 0 where
  pub whole : list_all (whole_by was) entries ≡ true → list_all (whole_by now) entries ≡ true
  pub paid : sum_by (due_by now) entries ≡ sum_by (due_by was) entries + due

-- At least what entries want is known of each word, no loop that they want is half known, and this is paid for those
-- that are entered.
pub record IsPaid (facts : Facts) (entries : List Entry) (paid : ℕ) : Type 0 where
  pub knows : SaysAll facts (entry_fact entries)
  pub whole : list_all (is_whole facts) entries ≡ true
  pub due : sum_by (price facts) entries ≡ paid

-- of each word of the blocks that were changed after a time, at least what is wanted is known
abbrev pub ChangedSay : ℤ → List ℕ → Facts → Facts → ℕ → Type 0
ChangedSay lo times facts wanted time =
    (k : ℤ) → time < word_time lo times k → says (facts k) (wanted k) ≡ true

-- A word of which this was known is known to be so still once it is left so: it was not left, or widened by a range
-- that says what is wanted.
abbrev pub allows : Option Leaving → WordFact → Bool
allows None wanted = true
allows (Some (Widen lo hi)) (Alone wanted) = implies (Number lo hi) wanted
allows _ _ = false

-- so it is of what an entry wants of a word; if that is nothing, however the word was left
abbrev pub range_says : Option Leaving → Fact → Bool
range_says None wanted = true
range_says (Some (Widen lo hi)) wanted = implies (Number lo hi) wanted
range_says (Some (Become said)) wanted = implies Unknown wanted
