-- What is remembered of comparisons with labels, and how it changes.
use Rattle.std.specs.Prelude.{◌≡◌, ◌<◌, ◌≤◌, ◌≢◌, ◌⊎◌, ℕ, ℤ, ◌-ℤ◌, Bool, true, false, ◌||◌, List, Some, sum_by}
use Rattle.std.specs.Prelude.{vec_len}
use Rattle.std.specs.List.{list_all}
use Rattle.std.proofs.Props.{props}
use Rattle.module_format.specs.Rows.{Entry}
use Rattle.module_format.specs.Contents.{Label}
use Rattle.states.specs.declared.remembered.Compared.{Compared}
use Rattle.states.specs.declared.remembered.Remembered.{Remembered}
use Rattle.states.specs.declared.span.Leaving.{Leaving}
use Rattle.states.specs.State.{Facts, is_alone, entry_fact}
use Rattle.states.specs.Below.{says}
use Rattle.states.specs.Blocks.{left_after, is_widening}
use Rattle.states.specs.Remembered.{numbered_label, never, compared_at, time_of, word_time, changes_of, written_in}
use Rattle.states.specs.Remembered.{leaving_since, range_in, first_since, index_changed, wants_no_loop}
use Rattle.states.specs.Remembered.{are_loops_of_two, whole_by, due_by, allows}

-- ---- what is remembered, where word `lo` has index 0

-- a word was changed by a time since the state began as a label's
abbrev pub was_changed : ℤ → Remembered → ℕ → ℤ → Bool
was_changed lo r time k = index_changed r.began r.firsts.words.items r.firsts.blocks.items time (k -ℤ lo)

-- A word was by itself at a time: the label says so, or it was changed by then. Loops only decay.
abbrev pub was_alone : Facts → ℤ → Remembered → ℕ → ℤ → Bool
was_alone said lo r time k = is_alone (said k) || was_changed lo r time k

-- What entries want was known at the time of a comparison, and is still of the words whose blocks were not changed
-- since. It is still of a word of whose block none was written since, if how that block was left allows it. No loop that
-- they want was half known then, and this was paid for those whose words were by themselves.
pub record IsRemembered (said : Facts) (lo : ℤ) (r : Remembered) (facts : Facts) (entries : List Entry)
    (c : Compared) : Type 0 where
  pub knows : (k : ℤ) → word_time lo r.times.items k ≤ c.time → says (facts k) (entry_fact entries k) ≡ true
  pub held : (k : ℤ) → written_in lo r.by_block.items k ≤ c.time
      → allows (range_in r.began lo r.times.items r.by_block.items k) (entry_fact entries k) ≡ true
      → says (facts k) (entry_fact entries k) ≡ true
  pub pairs : are_loops_of_two entries ≡ true
  pub whole : list_all (whole_by (was_alone said lo r c.time)) entries ≡ true
  pub due : sum_by (due_by (was_alone said lo r c.time)) entries ≡ c.paid
  pub plain : c.is_plain ≡ true → wants_no_loop entries ≡ true

-- the words are by themselves of which the label says so, or that were changed since
abbrev pub AreAged : Facts → Facts → ℤ → Remembered → Type 0
AreAged said facts lo r = (k : ℤ) → is_alone (facts k) ≡ was_alone said lo r r.time k

-- So it is of each comparison with a label that was not made before the state began as another one's. Of words that
-- were last changed before that, it is known what is said.
unfoldable pub AreRemembered : Facts → Facts → ℤ → Remembered → Type 0
AreRemembered said facts lo r =
    ((at : ℕ) (t : Label) → numbered_label r.«module».now at ≡ Some t → r.began ≤ (compared_at r.compared.items at).time
    → IsRemembered said lo r facts t.entries (compared_at r.compared.items at))
    × ((k : ℤ) → 1 ≤ word_time lo r.times.items k → word_time lo r.times.items k < r.began → facts k ≡ said k)
    × AreAged said facts lo r

pub AreRemembered-prop : (said facts : Facts) (lo : ℤ) (r : Remembered) → IsProp (AreRemembered said facts lo r)
unfolding AreRemembered
AreRemembered-prop said facts lo r = hlevel props

-- ---- how it changes

-- The comparisons are of the same module, as many times are kept, and each comparison is what it was, or none.
pub record IsKept (old new : Remembered) : Type 0 where
  pub same : new.«module».now ≡ old.«module».now
  pub len : vec_len new.times ≡ vec_len old.times
  pub words : vec_len new.firsts.words ≡ vec_len old.firsts.words
  pub each : (at : ℕ) → (compared_at new.compared.items at ≡ compared_at old.compared.items at)
      ⊎ (compared_at new.compared.items at ≡ never)

-- a block was changed after each comparison
pub record IsChanged (number : ℕ) (old new : Remembered) : Type 0 where
  pub kept : IsKept old new
  pub began : new.began ≡ old.began
  pub time : old.time ≤ new.time
  pub late : new.began ≤ time_of new.times.items number
  pub later : (at : ℕ) → (compared_at new.compared.items at).time < time_of new.times.items number
  pub others : (n : ℕ) → n ≢ number → time_of new.times.items n ≡ time_of old.times.items n

-- a word of a block was written, and what is kept for the others stays
pub record IsPlaced (index number : ℕ) (old new : Remembered) : Type 0 where
  pub changed : IsChanged number old new
  pub here : (changes_of new.by_block.items number).written ≡ time_of new.times.items number
  pub others : (n : ℕ) → n ≢ number → changes_of new.by_block.items n ≡ changes_of old.by_block.items n
  pub first : time_of new.firsts.words.items index ≡ first_since old.began (time_of old.firsts.words.items index) new.time
  pub firsts : (n : ℕ) → n ≢ index → time_of new.firsts.words.items n ≡ time_of old.firsts.words.items n
  pub lefts : new.firsts.blocks.items ≡ old.firsts.blocks.items

-- all words of a block were left so, and for the other blocks all is kept
pub record IsLeftSo (number : ℕ) (leaving : Leaving) (old new : Remembered) : Type 0 where
  pub changed : IsChanged number old new
  pub others : (n : ℕ) → n ≢ number → changes_of new.by_block.items n ≡ changes_of old.by_block.items n
  pub firsts : new.firsts.words.items ≡ old.firsts.words.items
  pub first : time_of new.firsts.blocks.items number ≡ first_since old.began (time_of old.firsts.blocks.items number) new.time
  pub lefts : (n : ℕ) → n ≢ number → time_of new.firsts.blocks.items n ≡ time_of old.firsts.blocks.items n
  pub written : is_widening leaving ≡ true
      → (changes_of new.by_block.items number).written ≡ (changes_of old.by_block.items number).written
  pub range : is_widening leaving ≡ true
      → leaving_since new.began (time_of new.times.items number) (changes_of new.by_block.items number)
      ≡ Some (left_after (leaving_since old.began (time_of old.times.items number)
      (changes_of old.by_block.items number)) leaving)
  pub anew : is_widening leaving ≡ false
      → time_of new.times.items number ≤ (changes_of new.by_block.items number).written

-- the state was compared with the label of a number, and this was paid
pub record IsPut (label paid : ℕ) (is_plain : Bool) (old new : Remembered) : Type 0 where
  pub same : new.«module».now ≡ old.«module».now
  pub times : new.times.items ≡ old.times.items
  pub firsts : new.firsts.words.items ≡ old.firsts.words.items
  pub lefts : new.firsts.blocks.items ≡ old.firsts.blocks.items
  pub blocks : new.by_block.items ≡ old.by_block.items
  pub time : new.time ≡ old.time
  pub began : new.began ≡ old.began
  pub each : (at : ℕ) → (compared_at new.compared.items at ≡ compared_at old.compared.items at)
      ⊎ ((at ≡ label)
      × (compared_at new.compared.items at ≡ record { time = new.time; paid = paid; is_plain = is_plain }))

-- the same is kept again, but for the comparisons
pub record IsCopy (old new : Remembered) : Type 0 where
  pub same : new.«module».now ≡ old.«module».now
  pub len : vec_len new.times ≡ vec_len old.times
  pub count : vec_len new.firsts.words ≡ vec_len old.firsts.words
  pub times : new.times.items ≡ old.times.items
  pub firsts : new.firsts.words.items ≡ old.firsts.words.items
  pub lefts : new.firsts.blocks.items ≡ old.firsts.blocks.items
  pub blocks : new.by_block.items ≡ old.by_block.items
  pub time : new.time ≡ old.time
  pub began : new.began ≡ old.began
  pub none : (at : ℕ) → compared_at new.compared.items at ≡ never
