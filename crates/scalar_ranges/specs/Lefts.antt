-- What the program puts off.
use Rattle.std.specs.Prelude.{◌≡◌, ℕ, zero, suc, ◌<◌, ◌≤◌, Bool, true, List, [], ◌∷◌, map, nat_eq, if◌then◌else◌}
use Rattle.std.specs.Prelude.{Option, Some, None}
use Rattle.std.proofs.Props.{props}
use Rattle.scalar_ranges.specs.declared.deferred.Left as code_left
use Rattle.scalar_ranges.specs.declared.deferred.Stage.{Stage}
use Rattle.scalar_ranges.specs.declared.deferred.Stage.TheVariants as stages
use Rattle.scalar_ranges.specs.declared.scope.Meaning as code_meaning
use Rattle.scalar_ranges.specs.declared.slots.Change as code_change
use Rattle.scalar_ranges.specs.declared.changes.Tracked as code_tracked
use Rattle.scalar_ranges.specs.declared.slots.Form.TheVariants as forms
use Rattle.scalar_ranges.specs.ChangeViews.{branchings_from}
use Rattle.scalar_ranges.specs.EntryViews.{meaning_of}
use Rattle.scalar_ranges.specs.Entries.{Meaning, Entry}
use Rattle.scalar_ranges.specs.Environments.{item_at}
use Rattle.scalar_ranges.specs.Moves.{Known, Block, is_one_of}
use Rattle.scalar_ranges.specs.Changes.{Branching, modify}
use Rattle.scalar_ranges.specs.Deferring.{of_form, further, entries_left, ends_left}
use Rattle.scalar_ranges.specs.Deferring.{around_left, outer_left, IsStill, AreApart, AreApart-prop}

-- what is put off of an entry
abbrev pub left_if : ℕ → Option code_left.Left → Option Meaning
left_if mark None = None
left_if mark (Some l) = if nat_eq l.mark mark then Some (meaning_of l.meaning) else None

abbrev pub left_at : ℕ → List code_left.Left → ℕ → Option Meaning
left_at mark ls n = left_if mark (item_at n ls)

-- what is known, with what is put off
abbrev pub known_left : Stage → (ℕ → Option Meaning) → Known → Known
known_left stages.Nothing p k = k
known_left (stages.Going f) p k = record { entries = entries_left f p k.entries; blocks = k.blocks }
known_left (stages.Ended f) p k = record { entries = k.entries; blocks = ends_left f p k.blocks }
known_left (stages.Around f a) p k =
    record { entries = entries_left f p k.entries; blocks = around_left (suc a) f p k.blocks }
known_left (stages.EndedAround f a) p k = record { entries = k.entries; blocks = outer_left (suc a) f p k.blocks }

-- where a branch ends, of a block that had ends before or not
abbrev pub turned_stage : Bool → Stage → Stage
turned_stage ended stages.Nothing = stages.Nothing
turned_stage ended (stages.Going f) = stages.Ended (if ended then forms.Ahead else f)
turned_stage ended (stages.Ended f) = if ended then stages.Ended (further f) else stages.Nothing
turned_stage ended (stages.Around f a) = stages.Around f a
turned_stage ended (stages.EndedAround f a) = stages.EndedAround f a

-- where a component ends
abbrev pub taken_stage : Stage → Stage
taken_stage stages.Nothing = stages.Nothing
taken_stage (stages.Going f) = stages.Ended f
taken_stage (stages.Ended f) = stages.Ended f
taken_stage (stages.Around f a) = stages.Around f a
taken_stage (stages.EndedAround f a) = stages.EndedAround f a

-- where a block ends, that had ends or not
abbrev pub ended_stage : Bool → Stage → Stage
ended_stage ended stages.Nothing = stages.Nothing
ended_stage ended (stages.Going f) = stages.Nothing
ended_stage ended (stages.Ended f) = if ended then stages.Going f else stages.Nothing
ended_stage ended (stages.Around f zero) = stages.Going f
ended_stage ended (stages.Around f (suc a)) = stages.Around f a
ended_stage ended (stages.EndedAround f zero) = stages.Ended f
ended_stage ended (stages.EndedAround f (suc a)) = stages.EndedAround f a

-- where a block begins and the list stays put off around it
abbrev pub begun_stage : Stage → Option Stage
begun_stage stages.Nothing = None
begun_stage (stages.Going f) = Some (stages.Around f 0)
begun_stage (stages.Ended f) = Some (stages.EndedAround f 0)
begun_stage (stages.Around f a) = Some (stages.Around f (suc a))
begun_stage (stages.EndedAround f a) = Some (stages.EndedAround f (suc a))

-- that a branch may end where the list stays put off
abbrev pub IsStillFor : Stage → (ℕ → Option Meaning) → List Entry → List Block → Type 0
IsStillFor stages.Nothing p es bs = Unit {0}
IsStillFor (stages.Going f) p es bs = IsStill p es bs
IsStillFor (stages.Ended f) p es bs = IsStill p es bs
IsStillFor (stages.Around f a) p es bs = IsStill p es bs
IsStillFor (stages.EndedAround f a) p es bs = Unit {0}

-- what an entry means, of which this is put off
abbrev pub meant_left : Stage → Option Meaning → Meaning → Meaning
meant_left (stages.Going f) (Some w) m = of_form f m w
meant_left (stages.Around f a) (Some w) m = of_form f m w
meant_left s o m = m

abbrev pub with_mark : ℕ → code_left.Left → code_left.Left
with_mark mark l = record l { mark = mark }

-- what is put off with one mark has another one
abbrev pub moved_mark : ℕ → ℕ → code_left.Left → code_left.Left
moved_mark from to l = if nat_eq l.mark from then with_mark to l else l

-- what is left of an entry is put off
abbrev pub set_if : ℕ → ℕ → Option code_meaning.Meaning → List code_left.Left → List code_left.Left
set_if mark n None ls = ls
set_if mark n (Some m) ls = modify (λ l. record { mark = mark; meaning = m }) n ls

-- the same of each change in a list
abbrev pub set_all : ℕ → List code_change.Change → List code_left.Left → List code_left.Left
set_all mark [] ls = ls
set_all mark (c ∷ cs) ls = set_all mark cs (set_if mark c.number c.after ls)

-- all changes are of entries below a number
abbrev pub AreBelow : ℕ → List code_change.Change → Type 0
AreBelow count [] = Unit {0}
AreBelow count (c ∷ cs) = (c.number < count) × AreBelow count cs

abbrev pub numbers_in : List code_change.Change → List ℕ
numbers_in cs = map (λ (c : code_change.Change). c.number) cs

-- No mark is higher than the list's, and what has it is in the list.
abbrev pub IsKept : ℕ → List code_left.Left → List code_change.Change → Type 0
IsKept mark ls cs =
    (0 < mark)
    × ((i : ℕ) (l : code_left.Left) → item_at i ls ≡ Some l
    → (l.mark ≤ mark) × (nat_eq l.mark mark ≡ true → is_one_of (numbers_in cs) i ≡ true))

pub IsKept-prop : (mark : ℕ) (ls : List code_left.Left) (cs : List code_change.Change) → IsProp (IsKept mark ls cs)
IsKept-prop mark ls cs = hlevel props

-- What a list keeps that is put off around the innermost blocks.
abbrev pub IsKeptApart : Stage → (ℕ → Option Meaning) → List Branching → Type 0
IsKeptApart stages.Nothing p bs = Unit {0}
IsKeptApart (stages.Going f) p bs = Unit {0}
IsKeptApart (stages.Ended f) p bs = Unit {0}
IsKeptApart (stages.Around f a) p bs = AreApart p (suc a) bs
IsKeptApart (stages.EndedAround f a) p bs = AreApart p (suc a) bs

pub IsKeptApart-prop : (s : Stage) (p : ℕ → Option Meaning) (bs : List Branching) → IsProp (IsKeptApart s p bs)
IsKeptApart-prop stages.Nothing p bs = hlevel props
IsKeptApart-prop (stages.Going f) p bs = hlevel props
IsKeptApart-prop (stages.Ended f) p bs = hlevel props
IsKeptApart-prop (stages.Around f a) p bs = AreApart-prop p (suc a) bs
IsKeptApart-prop (stages.EndedAround f a) p bs = AreApart-prop p (suc a) bs

-- the same of what the program has
abbrev pub KeepsApart : Stage → ℕ → List code_left.Left → code_tracked.Tracked → Type 0
KeepsApart s mark ls t = IsKeptApart s (left_at mark ls) (branchings_from t.blocks.items)

pub KeepsApart-prop : (s : Stage) (mark : ℕ) (ls : List code_left.Left) (t : code_tracked.Tracked)
    → IsProp (KeepsApart s mark ls t)
KeepsApart-prop s mark ls t = IsKeptApart-prop s (left_at mark ls) (branchings_from t.blocks.items)
