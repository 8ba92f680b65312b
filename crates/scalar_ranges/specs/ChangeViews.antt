-- The slots, changes and blocks that the program has.
pub use Rattle.scalar_ranges.specs.EntryViews.{meaning_of, entry_of}
use Rattle.std.specs.Prelude.{◌≡◌, ℕ, List, [], ◌∷◌, map, reverse, nat_eq, if◌then◌else◌, option_map, Option}
use Rattle.std.proofs.Props.{props}
use Rattle.scalar_ranges.specs.declared.slots.Slot as code_slot
use Rattle.scalar_ranges.specs.declared.slots.Turn as code_turn
use Rattle.scalar_ranges.specs.declared.slots.Turn.TheVariants as turns
use Rattle.scalar_ranges.specs.declared.slots.Update as code_update
use Rattle.scalar_ranges.specs.declared.slots.Update.TheVariants as updates
use Rattle.scalar_ranges.specs.declared.slots.Change as code_change
use Rattle.scalar_ranges.specs.declared.slots.Branching as code_branching
use Rattle.scalar_ranges.specs.Entries.{Meaning}
use Rattle.scalar_ranges.specs.Environments.{item_at}
use Rattle.scalar_ranges.specs.Changes.{Slot, Change, Branching, Tracked, before, AreTracked, numbers_of, put_if}
use Rattle.scalar_ranges.specs.Changes.{with_new, with_start, with_ends, with_end, with_restart}
use Rattle.scalar_ranges.specs.Changes.{known_if}
use Rattle.scalar_ranges.specs.Changes.{handed_slot, noted_slot}
use Rattle.scalar_ranges.specs.Deferring.{of_form}
use Rattle.scalar_ranges.specs.Narrowing.{left_of, with_range}
use Rattle.scalar_ranges.specs.Moves.{hull_meaning, Known}

abbrev pub slot_of : code_slot.Slot → Slot
slot_of s = record {
  name = s.name.now;
  meaning = meaning_of s.meaning;
  mark = s.mark;
  recent = s.recent;
  start = meaning_of s.start;
  ends = meaning_of s.ends;
}

-- a slot that the innermost block has in its list, where a branch ends
abbrev pub turned_to : code_turn.Turn → Slot → Slot
turned_to (turns.Join ended) s = with_end (if ended then hull_meaning s.ends s.meaning else s.meaning) s
turned_to turns.Take s = with_end s.meaning s
turned_to turns.Restart s = with_restart s

abbrev pub turned : ℕ → code_turn.Turn → Slot → Slot
turned d turn s = if nat_eq s.mark d then turned_to turn s else s

-- a slot after what the program makes of it
abbrev pub updated : code_update.Update → Slot → Slot
updated (updates.List depth) = noted_slot depth
updated (updates.Mean m) = with_new (meaning_of m)
updated (updates.Begin comparison constant) = with_start (with_range (left_of comparison constant))
updated (updates.Leave form left) = with_ends (λ m. of_form form m (meaning_of left))
updated (updates.End depth turn) = turned depth turn
updated (updates.HandOver inner outer ended before) = handed_slot inner outer ended (meaning_of before)

-- the outermost one first
abbrev pub slots_from : List code_slot.Slot → List Slot
slots_from slots = map slot_of slots

abbrev pub change_of : code_change.Change → Change
change_of c = record { number = c.number; before = slot_of c.before }

abbrev pub changes_from : List code_change.Change → List Change
changes_from changes = map change_of changes

abbrev pub branching_of : code_branching.Branching → Branching
branching_of b = record {
  count = b.count;
  ended = b.ended;
  even = b.even;
  changes = changes_from b.changes.items;
  earlier = b.earlier.items;
  recent = b.recent.items;
}

-- the innermost one first, where the program has it last
abbrev pub branchings_from : List code_branching.Branching → List Branching
branchings_from blocks = reverse (map branching_of blocks)

abbrev pub tracked_from : List code_slot.Slot → List code_branching.Branching → Tracked
tracked_from slots blocks = record { slots = slots_from slots; blocks = branchings_from blocks }

-- what the changed entries mean after a block
abbrev pub afters_from : List code_change.Change → List (Option Meaning)
afters_from changes = map (λ c. option_map meaning_of c.after) changes

-- each change has what a list says of its entry
abbrev pub AfterBlock : List Meaning → List code_change.Change → Type 0
AfterBlock ms changes = afters_from changes ≡ map (λ n. item_at n ms) (numbers_of (changes_from changes))

-- the entries mean what the changes say of the end of a block
abbrev pub put_afters : List code_change.Change → Tracked → Tracked
put_afters [] t = t
put_afters (c ∷ cs) t = put_afters cs (put_if (option_map meaning_of c.after) c.number t)

-- the same of what is known
abbrev pub known_afters : List code_change.Change → Known → Known
known_afters [] k = k
known_afters (c ∷ cs) k = known_afters cs (known_if (option_map meaning_of c.after) c.number k)

-- ---- what belongs together

pub AreTracked-prop : (ss : List Slot) (bs : List Branching) → IsProp (AreTracked ss bs)
AreTracked-prop ss [] = hlevel props
AreTracked-prop ss (b ∷ bs) = hlevel (props, AreTracked-prop (before b ss) bs)

abbrev pub BelongTogether : List code_slot.Slot → List code_branching.Branching → Type 0
BelongTogether slots blocks = AreTracked (slots_from slots) (branchings_from blocks)

pub BelongTogether-prop : (slots : List code_slot.Slot) (blocks : List code_branching.Branching)
    → IsProp (BelongTogether slots blocks)
BelongTogether-prop slots blocks = AreTracked-prop (slots_from slots) (branchings_from blocks)
