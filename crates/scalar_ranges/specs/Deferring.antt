-- What blocks that have ended left of entries, which is put off.
use Rattle.std.specs.Prelude.{◌≡◌, ◌≤◌, ℕ, zero, suc, Bool, true, false, List, [], ◌∷◌, length, Option, Some, None}
use Rattle.std.specs.Prelude.{option_map, ◌⊎◌}
use Rattle.std.proofs.Props.{props}
use Rattle.scalar_ranges.specs.declared.slots.Form.{Form}
use Rattle.scalar_ranges.specs.declared.slots.Form.TheVariants as forms
use Rattle.scalar_ranges.specs.Entries.{Meaning, Entry}
use Rattle.scalar_ranges.specs.Changes.{Change, Branching}
use Rattle.scalar_ranges.specs.Moves.{with_meaning, hull_meaning, Block, end_of}

-- what an entry means that meant something before and of which a block left something
abbrev pub of_form : Form → Meaning → Meaning → Meaning
of_form forms.Whole m left = left
of_form forms.Ahead m left = hull_meaning m left
of_form forms.Behind m left = hull_meaning left m

-- the same where a further branch ends that does not change the entry
abbrev pub further : Form → Form
further forms.Whole = forms.Behind
further forms.Ahead = forms.Ahead
further forms.Behind = forms.Behind

-- an entry of which a block left something, or nothing
abbrev pub entry_left : Form → Option Meaning → Entry → Entry
entry_left f None e = e
entry_left f (Some left) e = with_meaning (λ m. of_form f m left) e

-- the same of all entries, by their numbers from the outermost one on
abbrev pub entries_left : Form → (ℕ → Option Meaning) → List Entry → List Entry
entries_left f p [] = []
entries_left f p (e ∷ es) = entry_left f (p (length es)) e ∷ entries_left f p es

-- the ends of the innermost block
abbrev pub ends_left : Form → (ℕ → Option Meaning) → List Block → List Block
ends_left f p [] = []
ends_left f p (b ∷ bs) = record { start = b.start; ends = option_map (λ ds. entries_left f p ds) b.ends } ∷ bs

-- the beginning and the ends of the innermost block
abbrev pub block_left : Form → (ℕ → Option Meaning) → Block → Block
block_left f p b =
    record { start = entries_left f p b.start; ends = option_map (λ ds. entries_left f p ds) b.ends }

-- the same of the innermost blocks, as many as this
abbrev pub around_left : ℕ → Form → (ℕ → Option Meaning) → List Block → List Block
around_left a f p [] = []
around_left zero f p (b ∷ bs) = b ∷ bs
around_left (suc a) f p (b ∷ bs) = block_left f p b ∷ around_left a f p bs

-- the ends of the block around the innermost ones, as many as this
abbrev pub outer_left : ℕ → Form → (ℕ → Option Meaning) → List Block → List Block
outer_left zero f p bs = ends_left f p bs
outer_left (suc a) f p [] = []
outer_left (suc a) f p (b ∷ bs) = b ∷ outer_left a f p bs

-- whether there is a block, and whether the innermost one has ends
abbrev pub is_inside : List Block → Bool
is_inside [] = false
is_inside (b ∷ bs) = true

abbrev pub is_some : {A : Type 0} → Option A → Bool
is_some None = false
is_some (Some x) = true

abbrev pub has_ends : List Block → Bool
has_ends [] = false
has_ends (b ∷ bs) = is_some b.ends

-- The ends so far are what is known here, but for entries of which nothing is put off.
abbrev pub AreAlike : (ℕ → Option Meaning) → List Entry → List Entry → Type 0
AreAlike p [] es = Unit {0}
AreAlike p (d ∷ ds) [] = ⊥
AreAlike p (d ∷ ds) (e ∷ es) = ((p (length ds) ≡ None) ⊎ (d ≡ e)) × AreAlike p ds es

-- of none of the entries in a list anything is put off
abbrev pub AreNone : (ℕ → Option Meaning) → List Change → Type 0
AreNone p [] = Unit {0}
AreNone p (c ∷ cs) = (p c.number ≡ None) × AreNone p cs

abbrev pub AreStill : (ℕ → Option Meaning) → Option (List Entry) → List Entry → Type 0
AreStill p None es = Unit {0}
AreStill p (Some ds) es = AreAlike p ds es

abbrev pub IsStill : (ℕ → Option Meaning) → List Entry → List Block → Type 0
IsStill p es [] = Unit {0}
IsStill p es (b ∷ bs) = AreStill p b.ends (end_of b es)

-- Of what a block changed nothing is put off, nor of what it did not begin with.
abbrev pub IsApart : (ℕ → Option Meaning) → Branching → Type 0
IsApart p b = AreNone p b.changes × ((i : ℕ) → b.count ≤ i → p i ≡ None)

-- The same of the innermost blocks, as many as this, and there is a block around them.
abbrev pub AreApart : (ℕ → Option Meaning) → ℕ → List Branching → Type 0
AreApart p a [] = ⊥
AreApart p zero (b ∷ bs) = Unit {0}
AreApart p (suc a) (b ∷ bs) = IsApart p b × AreApart p a bs

-- What is put off apart from so many blocks is so too after a move.
abbrev pub StayApart : ℕ → List Branching → ℕ → List Branching → Type 0
StayApart a bs c cs = (p : ℕ → Option Meaning) → AreApart p a bs → AreApart p c cs

-- The same of a list of which nothing is put off, and of an entry.
abbrev pub StayWithout : List Change → List Branching → List Branching → Type 0
StayWithout ks bs cs = (p : ℕ → Option Meaning) (a : ℕ) → AreNone p ks → AreApart p a bs → AreApart p a cs

abbrev pub StayWithoutOne : ℕ → List Branching → List Branching → Type 0
StayWithoutOne n bs cs = (p : ℕ → Option Meaning) (a : ℕ) → p n ≡ None → AreApart p a bs → AreApart p a cs

-- The innermost block ends, and its list is left.
abbrev pub IsLeft : List Change → List Branching → List Branching → Type 0
IsLeft ks bs cs =
    (p : ℕ → Option Meaning) (a : ℕ) → AreApart p (suc a) bs → AreNone p ks × AreApart p a cs

AreNone-prop : (p : ℕ → Option Meaning) (cs : List Change) → IsProp (AreNone p cs)
AreNone-prop p [] = hlevel props
AreNone-prop p (c ∷ cs) = hlevel (props, AreNone-prop p cs)

pub AreApart-prop : (p : ℕ → Option Meaning) (a : ℕ) (bs : List Branching) → IsProp (AreApart p a bs)
AreApart-prop p a [] = hlevel props
AreApart-prop p zero (b ∷ bs) = hlevel props
AreApart-prop p (suc a) (b ∷ bs) = hlevel (props, AreNone-prop p b.changes, AreApart-prop p a bs)
