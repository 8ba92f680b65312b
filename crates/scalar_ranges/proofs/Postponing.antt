-- What is known, with what is put off, after each move.
use Rattle.std.proofs.Common.{◌≡◌, ℕ, zero, suc, ◌<◌, ◌≤◌, true, false, cond, List, [], ◌∷◌, length, refl, ap, arith}
use Rattle.std.proofs.Common.{subst, Option, Some, None, ◌∙◌, nat_eq, option_map, sym, Bool}
use Rattle.scalar_ranges.specs.declared.slots.Form.{Form}
use Rattle.scalar_ranges.specs.declared.deferred.Stage.{Stage}
use Rattle.scalar_ranges.specs.declared.deferred.Stage.TheVariants as stages
use Rattle.scalar_ranges.specs.Entries.{Meaning, Entry, entry_at}
use Rattle.scalar_ranges.specs.Moves.{outermost, at_number, with_meaning, is_one_of, Block, Known, begun_with}
use Rattle.scalar_ranges.specs.Moves.{next_from}
use Rattle.scalar_ranges.specs.Moves.{component_from, after_block, next, next_component, end, end_of, hulls, taken}
use Rattle.scalar_ranges.specs.MoveLaws.{meaning_at}
use Rattle.scalar_ranges.specs.Changes.{known_with, changed_start, changed_ends, changed_to, changed_around}
use Rattle.scalar_ranges.specs.Changes.{known_around, ends_around, begin_with, ends_seen}
use Rattle.scalar_ranges.specs.Deferring.{of_form, entry_left, entries_left, ends_left, around_left, outer_left}
use Rattle.scalar_ranges.specs.Deferring.{is_inside, has_ends, is_some}
use Rattle.scalar_ranges.specs.Lefts.{known_left, turned_stage, ended_stage, begun_stage, meant_left, IsStillFor}
use Rattle.scalar_ranges.proofs.Nesting.{outermost_short}
use Rattle.scalar_ranges.proofs.Deferring.{left_long, same_below, none_left, released, changed_left, joined}
use Rattle.scalar_ranges.proofs.Deferring.{entry_found, meaning_left, cut_left, going_hulls, ended_hulls, going_taken}
use Rattle.scalar_ranges.proofs.Deferring.{ended_taken, around_hulls, around_taken}
use Rattle.scalar_ranges.proofs.Named.{changed_by_meaning}

-- ---- what is read

pub now_long : (s : Stage) (p : ℕ → Option Meaning) (k : Known)
    → length (known_left s p k).entries ≡ length k.entries
now_long stages.Nothing p k = refl
now_long (stages.Going f) p k = left_long f p k.entries
now_long (stages.Ended f) p k = refl
now_long (stages.Around f a) p k = left_long f p k.entries
now_long (stages.EndedAround f a) p k = refl

begun_left : (f : Form) (p : ℕ → Option Meaning) (bs : List Block) → begun_with (ends_left f p bs) ≡ begun_with bs
begun_left f p [] = refl
begun_left f p (b ∷ bs) = refl

begun_around : (a : ℕ) (f : Form) (p : ℕ → Option Meaning) (bs : List Block)
    → begun_with (around_left (suc a) f p bs) ≡ begun_with bs
begun_around a f p [] = refl
begun_around a f p (b ∷ bs) = left_long f p b.start

begun_outer : (a : ℕ) (f : Form) (p : ℕ → Option Meaning) (bs : List Block)
    → begun_with (outer_left (suc a) f p bs) ≡ begun_with bs
begun_outer a f p [] = refl
begun_outer a f p (b ∷ bs) = refl

pub begun_now : (s : Stage) (p : ℕ → Option Meaning) (k : Known)
    → begun_with (known_left s p k).blocks ≡ begun_with k.blocks
begun_now stages.Nothing p k = refl
begun_now (stages.Going f) p k = refl
begun_now (stages.Ended f) p k = begun_left f p k.blocks
begun_now (stages.Around f a) p k = begun_around a f p k.blocks
begun_now (stages.EndedAround f a) p k = begun_outer a f p k.blocks

same_if : {A : Type 0} (f : A → A) (x : Option A) → ((a : A) → a ≡ f a) → x ≡ option_map f x
same_if f None same = refl
same_if f (Some a) same = ap Some (same a)

meant_same : (f : Form) (o x : Option Meaning)
    → option_map (joined f o) x ≡ option_map (meant_left (stages.Going f) o) x
meant_same f None x = refl
meant_same f (Some w) x = refl

meant_around : (a : ℕ) (f : Form) (o x : Option Meaning)
    → option_map (joined f o) x ≡ option_map (meant_left (stages.Around f a) o) x
meant_around a f None x = refl
meant_around a f (Some w) x = refl

pub meaning_now : (s : Stage) (p : ℕ → Option Meaning) (n : ℕ) (k : Known)
    → meaning_at n (known_left s p k).entries ≡ option_map (meant_left s (p n)) (meaning_at n k.entries)
meaning_now stages.Nothing p n k = same_if (meant_left stages.Nothing (p n)) (meaning_at n k.entries) (λ a. refl)
meaning_now (stages.Going f) p n k = meaning_left f p n k.entries ∙ meant_same f (p n) (meaning_at n k.entries)
meaning_now (stages.Ended f) p n k = same_if (meant_left (stages.Ended f) (p n)) (meaning_at n k.entries) (λ a. refl)
meaning_now (stages.Around f a) p n k =
    meaning_left f p n k.entries ∙ meant_around a f (p n) (meaning_at n k.entries)
meaning_now (stages.EndedAround f a) p n k =
    same_if (meant_left (stages.EndedAround f a) (p n)) (meaning_at n k.entries) (λ m. refl)

abbrev pub entry_meant : Stage → Option Meaning → Entry → Entry
entry_meant s o e = record { name = e.name; meaning = meant_left s o e.meaning }

entry_same : (f : Form) (o : Option Meaning) (x : Option Entry)
    → option_map (λ (k : Entry). record { name = k.name; meaning = joined f o k.meaning }) x
    ≡ option_map (entry_meant (stages.Going f) o) x
entry_same f None x = refl
entry_same f (Some w) x = refl

entry_around : (a : ℕ) (f : Form) (o : Option Meaning) (x : Option Entry)
    → option_map (λ (k : Entry). record { name = k.name; meaning = joined f o k.meaning }) x
    ≡ option_map (entry_meant (stages.Around f a) o) x
entry_around a f None x = refl
entry_around a f (Some w) x = refl

pub entry_now : (s : Stage) (p : ℕ → Option Meaning) (n : ℕ) (k : Known)
    → entry_at n (known_left s p k).entries ≡ option_map (entry_meant s (p n)) (entry_at n k.entries)
entry_now stages.Nothing p n k = same_if (entry_meant stages.Nothing (p n)) (entry_at n k.entries) (λ a. refl)
entry_now (stages.Going f) p n k = entry_found f p n k.entries ∙ entry_same f (p n) (entry_at n k.entries)
entry_now (stages.Ended f) p n k = same_if (entry_meant (stages.Ended f) (p n)) (entry_at n k.entries) (λ a. refl)
entry_now (stages.Around f a) p n k =
    entry_found f p n k.entries ∙ entry_around a f (p n) (entry_at n k.entries)
entry_now (stages.EndedAround f a) p n k =
    same_if (entry_meant (stages.EndedAround f a) (p n)) (entry_at n k.entries) (λ e. refl)

-- ---- entries that change

-- The ends of the innermost block are as many as it began with, and these are no more than there are.
abbrev pub AreWhole : Option (List Entry) → List Entry → Type 0
AreWhole None es = Unit {0}
AreWhole (Some ds) es = length ds ≡ length es

abbrev pub HasWhole : List Entry → List Block → Type 0
HasWhole es [] = Unit {0}
HasWhole es (b ∷ bs) = AreWhole b.ends (end_of b es) × (length b.start ≤ length es)

-- The ends of all blocks are no more than this, and with no more they began.
abbrev pub EndsShort : ℕ → Option (List Entry) → Type 0
EndsShort size None = Unit {0}
EndsShort size (Some ds) = length ds ≤ size

abbrev pub AreShort : ℕ → List Block → Type 0
AreShort size [] = Unit {0}
AreShort size (b ∷ bs) = (length b.start ≤ size) × EndsShort size b.ends × AreShort size bs

same_ends : (f : Form) (p q : ℕ → Option Meaning) (o : Option (List Entry)) (es us : List Entry) → AreWhole o us
    → length us ≤ length es → ((i : ℕ) → i < length es → q i ≡ p i)
    → option_map (λ ds. entries_left f q ds) o ≡ option_map (λ ds. entries_left f p ds) o
same_ends f p q None es us whole short same = refl
same_ends f p q (Some ds) es us whole short same =
    ap Some (same_below f p q ds (λ i less. same i (omega arith)))

same_blocks : (f : Form) (p q : ℕ → Option Meaning) (es : List Entry) (bs : List Block) → HasWhole es bs
    → ((i : ℕ) → i < length es → q i ≡ p i) → ends_left f q bs ≡ ends_left f p bs
same_blocks f p q es [] whole same = refl
same_blocks f p q es (b ∷ bs) whole same =
    ap (λ o. record { start = b.start; ends = o } ∷ bs)
    (same_ends f p q b.ends es (end_of b es) whole.0 (outermost_short (length b.start) es) same)

short_ends : (f : Form) (p q : ℕ → Option Meaning) (size : ℕ) (o : Option (List Entry)) → EndsShort size o
    → ((i : ℕ) → i < size → q i ≡ p i)
    → option_map (λ ds. entries_left f q ds) o ≡ option_map (λ ds. entries_left f p ds) o
short_ends f p q size None short same = refl
short_ends f p q size (Some ds) short same = ap Some (same_below f p q ds (λ i less. same i (omega arith)))

same_around : (a : ℕ) (f : Form) (p q : ℕ → Option Meaning) (size : ℕ) (bs : List Block) → AreShort size bs
    → ((i : ℕ) → i < size → q i ≡ p i) → around_left a f q bs ≡ around_left a f p bs
same_around a f p q size [] short same = refl
same_around zero f p q size (b ∷ bs) short same = refl
same_around (suc a) f p q size (b ∷ bs) short same =
    let first = short.0 in
    λ i. record {
      start = same_below f p q b.start (λ k less. same k (omega arith)) i;
      ends = short_ends f p q size b.ends short.1 same i;
    } ∷ same_around a f p q size bs short.2 same i

same_outer : (a : ℕ) (f : Form) (p q : ℕ → Option Meaning) (size : ℕ) (bs : List Block) → AreShort size bs
    → ((i : ℕ) → i < size → q i ≡ p i) → outer_left a f q bs ≡ outer_left a f p bs
same_outer zero f p q size [] short same = refl
same_outer zero f p q size (b ∷ bs) short same =
    ap (λ o. record { start = b.start; ends = o } ∷ bs) (short_ends f p q size b.ends short.1 same)
same_outer (suc a) f p q size [] short same = refl
same_outer (suc a) f p q size (b ∷ bs) short same = ap (λ ks. b ∷ ks) (same_outer a f p q size bs short.2 same)

pub same_now : (s : Stage) (p q : ℕ → Option Meaning) (k : Known) → HasWhole k.entries k.blocks
    → AreShort (length k.entries) k.blocks → ((i : ℕ) → i < length k.entries → q i ≡ p i)
    → known_left s q k ≡ known_left s p k
same_now stages.Nothing p q k whole short same = refl
same_now (stages.Going f) p q k whole short same =
    ap (λ es. record { entries = es; blocks = k.blocks }) (same_below f p q k.entries same)
same_now (stages.Ended f) p q k whole short same =
    ap (λ bs. record { entries = k.entries; blocks = bs }) (same_blocks f p q k.entries k.blocks whole same)
same_now (stages.Around f a) p q k whole short same =
    λ i. record {
      entries = same_below f p q k.entries same i;
      blocks = same_around (suc a) f p q (length k.entries) k.blocks short same i;
    }
same_now (stages.EndedAround f a) p q k whole short same =
    ap (λ bs. record { entries = k.entries; blocks = bs })
    (same_outer (suc a) f p q (length k.entries) k.blocks short same)

pub declared_now : (s : Stage) (p : ℕ → Option Meaning) (e : Entry) (k : Known) → p (length k.entries) ≡ None
    → known_left s p (record { entries = e ∷ k.entries; blocks = k.blocks })
    ≡ record { entries = e ∷ (known_left s p k).entries; blocks = (known_left s p k).blocks }
declared_now stages.Nothing p e k none = refl
declared_now (stages.Going f) p e k none =
    ap (λ o. record { entries = entry_left f o e ∷ entries_left f p k.entries; blocks = k.blocks }) none
declared_now (stages.Ended f) p e k none = refl
declared_now (stages.Around f a) p e k none =
    ap (λ o. record {
      entries = entry_left f o e ∷ entries_left f p k.entries;
      blocks = around_left (suc a) f p k.blocks;
    }) none
declared_now (stages.EndedAround f a) p e k none = refl

pub cut_now : (s : Stage) (p : ℕ → Option Meaning) (count : ℕ) (k : Known)
    → known_left s p (record { entries = outermost count k.entries; blocks = k.blocks })
    ≡ record { entries = outermost count (known_left s p k).entries; blocks = (known_left s p k).blocks }
cut_now stages.Nothing p count k = refl
cut_now (stages.Going f) p count k =
    ap (λ es. record { entries = es; blocks = k.blocks }) (cut_left f p count k.entries)
cut_now (stages.Ended f) p count k = refl
cut_now (stages.Around f a) p count k =
    ap (λ es. record { entries = es; blocks = around_left (suc a) f p k.blocks }) (cut_left f p count k.entries)
cut_now (stages.EndedAround f a) p count k = refl

pub put_now : (s : Stage) (p : ℕ → Option Meaning) (n : ℕ) (m : Meaning) (k : Known) → p n ≡ None
    → known_left s p (known_with n m k) ≡ known_with n m (known_left s p k)
put_now stages.Nothing p n m k none = refl
put_now (stages.Going f) p n m k none =
    ap (λ es. record { entries = es; blocks = k.blocks }) (changed_left f p n (with_meaning (λ j. m)) k.entries none)
put_now (stages.Ended f) p n m k none = refl
put_now (stages.Around f a) p n m k none =
    ap (λ es. record { entries = es; blocks = around_left (suc a) f p k.blocks })
    (changed_left f p n (with_meaning (λ j. m)) k.entries none)
put_now (stages.EndedAround f a) p n m k none = refl

start_left : (f : Form) (p : ℕ → Option Meaning) (g : Meaning → Meaning) (n : ℕ) (bs : List Block)
    → ends_left f p (changed_start g n bs) ≡ changed_start g n (ends_left f p bs)
start_left f p g n [] = refl
start_left f p g n (b ∷ bs) = refl

start_around : (a : ℕ) (f : Form) (p : ℕ → Option Meaning) (g : Meaning → Meaning) (n : ℕ) (bs : List Block)
    → p n ≡ None
    → around_left (suc a) f p (changed_start g n bs) ≡ changed_start g n (around_left (suc a) f p bs)
start_around a f p g n [] none = refl
start_around a f p g n (b ∷ bs) none =
    ap (λ ds. record { start = ds; ends = option_map (λ ks. entries_left f p ks) b.ends } ∷ around_left a f p bs)
    (changed_left f p n (with_meaning g) b.start none)

start_outer : (a : ℕ) (f : Form) (p : ℕ → Option Meaning) (g : Meaning → Meaning) (n : ℕ) (bs : List Block)
    → outer_left (suc a) f p (changed_start g n bs) ≡ changed_start g n (outer_left (suc a) f p bs)
start_outer a f p g n [] = refl
start_outer a f p g n (b ∷ bs) = refl

pub start_now : (s : Stage) (p : ℕ → Option Meaning) (g : Meaning → Meaning) (n : ℕ) (k : Known) → p n ≡ None
    → known_left s p (record { entries = k.entries; blocks = changed_start g n k.blocks })
    ≡ record { entries = (known_left s p k).entries; blocks = changed_start g n (known_left s p k).blocks }
start_now stages.Nothing p g n k none = refl
start_now (stages.Going f) p g n k none = refl
start_now (stages.Ended f) p g n k none =
    ap (λ bs. record { entries = k.entries; blocks = bs }) (start_left f p g n k.blocks)
start_now (stages.Around f a) p g n k none =
    ap (λ bs. record { entries = entries_left f p k.entries; blocks = bs }) (start_around a f p g n k.blocks none)
start_now (stages.EndedAround f a) p g n k none =
    ap (λ bs. record { entries = k.entries; blocks = bs }) (start_outer a f p g n k.blocks)

begun_ends : (f : Form) (p : ℕ → Option Meaning) (ended : Bool) (es : List Entry)
    → option_map (λ ds. entries_left f p ds) (ends_seen ended es) ≡ ends_seen ended (entries_left f p es)
begun_ends f p true es = refl
begun_ends f p false es = refl

-- a block begins behind the one that has ended
begun_going : (f : Form) (p : ℕ → Option Meaning) (ended : Bool) (es : List Entry) (bs : List Block)
    → known_left (stages.Around f 0) p (begin_with ended (record { entries = es; blocks = bs }))
    ≡ begin_with ended (known_left (stages.Going f) p (record { entries = es; blocks = bs }))
begun_going f p ended es [] =
    ap (λ o. record {
      entries = entries_left f p es;
      blocks = record { start = entries_left f p es; ends = o } ∷ [];
    }) (begun_ends f p ended es)
begun_going f p ended es (b ∷ bs) =
    ap (λ o. record {
      entries = entries_left f p es;
      blocks = record { start = entries_left f p es; ends = o } ∷ b ∷ bs;
    }) (begun_ends f p ended es)

pub begun_behind : (s t : Stage) (p : ℕ → Option Meaning) (ended : Bool) (k : Known) → begun_stage s ≡ Some t
    → known_left t p (begin_with ended k) ≡ begin_with ended (known_left s p k)
begun_behind stages.Nothing t p ended k is = absurd (cc)
begun_behind (stages.Ended f) t p ended k is =
    let same : stages.EndedAround f 0 ≡ t = cc in
    subst (λ u. known_left u p (begin_with ended k) ≡ begin_with ended (known_left (stages.Ended f) p k)) same refl
begun_behind (stages.EndedAround f a) t p ended k is =
    let same : stages.EndedAround f (suc a) ≡ t = cc in
    subst (λ u. known_left u p (begin_with ended k) ≡ begin_with ended (known_left (stages.EndedAround f a) p k)) same
    refl
begun_behind (stages.Going f) t p ended k is =
    let same : stages.Around f 0 ≡ t = cc in
    subst (λ u. known_left u p (begin_with ended k) ≡ begin_with ended (known_left (stages.Going f) p k)) same
    (begun_going f p ended k.entries k.blocks)
begun_behind (stages.Around f a) t p ended k is =
    let same : stages.Around f (suc a) ≡ t = cc in
    subst (λ u. known_left u p (begin_with ended k) ≡ begin_with ended (known_left (stages.Around f a) p k)) same
    (ap (λ o. record {
      entries = entries_left f p k.entries;
      blocks = record { start = entries_left f p k.entries; ends = o } ∷ around_left (suc a) f p k.blocks;
    }) (begun_ends f p ended k.entries))

-- ---- a branch ends

cut_around : (f : Form) (p : ℕ → Option Meaning) (start es : List Entry)
    → entries_left f p (outermost (length start) es)
    ≡ outermost (length (entries_left f p start)) (entries_left f p es)
cut_around f p start es =
    cut_left f p (length start) es ∙ ap (λ k. outermost k (entries_left f p es)) (sym (left_long f p start))

next_by : (s : Stage) (p : ℕ → Option Meaning) (es start : List Entry) (o : Option (List Entry)) (bs : List Block)
    → IsStillFor s p es (record { start = start; ends = o } ∷ bs) → AreWhole o (outermost (length start) es)
    → known_left (turned_stage (is_some o) s) p (next_from es (record { start = start; ends = o } ∷ bs))
    ≡ next (known_left s p (record { entries = es; blocks = record { start = start; ends = o } ∷ bs }))
next_by stages.Nothing p es start o bs still whole = refl
next_by (stages.Going f) p es start None bs still whole =
    ap (λ ds. record { entries = start; blocks = record { start = start; ends = Some ds } ∷ bs })
    (cut_left f p (length start) es)
next_by (stages.Going f) p es start (Some ds) bs still whole =
    let us = outermost (length start) es in
    ap (λ ks. record { entries = start; blocks = record { start = start; ends = Some ks } ∷ bs })
    (going_hulls f p ds us whole still ∙ ap (hulls ds) (cut_left f p (length start) es))
next_by (stages.Ended f) p es start None bs still whole = refl
next_by (stages.Ended f) p es start (Some ds) bs still whole =
    let us = outermost (length start) es in
    ap (λ ks. record { entries = start; blocks = record { start = start; ends = Some ks } ∷ bs })
    (ended_hulls f p ds us still)
next_by (stages.Around f a) p es start None bs still whole =
    ap (λ ds. record {
      entries = entries_left f p start;
      blocks = record { start = entries_left f p start; ends = Some ds } ∷ around_left a f p bs;
    }) (cut_around f p start es)
next_by (stages.Around f a) p es start (Some ds) bs still whole =
    let us = outermost (length start) es in
    ap (λ ks. record {
      entries = entries_left f p start;
      blocks = record { start = entries_left f p start; ends = Some ks } ∷ around_left a f p bs;
    }) (around_hulls f p ds us whole still ∙ ap (hulls (entries_left f p ds)) (cut_around f p start es))
next_by (stages.EndedAround f a) p es start o bs still whole = refl

pub next_now : (s : Stage) (p : ℕ → Option Meaning) (es : List Entry) (bs : List Block) → is_inside bs ≡ true
    → IsStillFor s p es bs → HasWhole es bs → known_left (turned_stage (has_ends bs) s) p (next_from es bs)
    ≡ next (known_left s p (record { entries = es; blocks = bs }))
next_now s p es [] inside still whole = absurd (cc)
next_now s p es (b ∷ bs) inside still whole = next_by s p es b.start b.ends bs still whole.0

pub next_outside : (s : Stage) (p : ℕ → Option Meaning) (es : List Entry) (bs : List Block) → is_inside bs ≡ false
    → known_left s p (next_from es bs) ≡ next (known_left s p (record { entries = es; blocks = bs }))
next_outside stages.Nothing p es [] inside = refl
next_outside (stages.Going f) p es [] inside = refl
next_outside (stages.Ended f) p es [] inside = refl
next_outside (stages.Around f a) p es [] inside = refl
next_outside (stages.EndedAround f a) p es [] inside = refl
next_outside s p es (b ∷ bs) inside = absurd (cc)

-- ---- a component ends

outside_by : (s : Stage) (p : ℕ → Option Meaning) (ns : List ℕ) (es : List Entry) (bs : List Block)
    → is_inside bs ≡ false → known_left s p (record { entries = es; blocks = bs })
    ≡ next_component ns (known_left s p (record { entries = es; blocks = bs }))
outside_by stages.Nothing p ns es [] inside = refl
outside_by (stages.Going f) p ns es [] inside = refl
outside_by (stages.Ended f) p ns es [] inside = refl
outside_by (stages.Around f a) p ns es [] inside = refl
outside_by (stages.EndedAround f a) p ns es [] inside = refl
outside_by s p ns es (b ∷ bs) inside = absurd (cc)

pub component_outside : (s : Stage) (p : ℕ → Option Meaning) (ns : List ℕ) (k : Known) → is_inside k.blocks ≡ false
    → known_left s p k ≡ next_component ns (known_left s p k)
component_outside s p ns k inside = outside_by s p ns k.entries k.blocks inside

going_by : (f : Form) (p q : ℕ → Option Meaning) (ns : List ℕ) (es start : List Entry) (o : Option (List Entry))
    → AreWhole o (outermost (length start) es) → ((i : ℕ) → q i ≡ cond (is_one_of ns i) (p i) None)
    → option_map (λ ds. entries_left f q ds) (option_map (λ ds. taken ns ds (outermost (length start) es)) o)
    ≡ option_map (λ ds. taken ns ds (outermost (length start) (entries_left f p es))) o
going_by f p q ns es start None whole is = refl
going_by f p q ns es start (Some ds) whole is =
    ap Some (going_taken f p q ns ds (outermost (length start) es) whole is
    ∙ ap (taken ns ds) (cut_left f p (length start) es))

pub going_now : (f : Form) (p q : ℕ → Option Meaning) (ns : List ℕ) (es : List Entry) (bs : List Block)
    → is_inside bs ≡ true → HasWhole es bs → ((i : ℕ) → q i ≡ cond (is_one_of ns i) (p i) None)
    → known_left (stages.Ended f) q (component_from ns es bs) ≡ component_from ns (entries_left f p es) bs
going_now f p q ns es [] inside whole is = absurd (cc)
going_now f p q ns es (b ∷ bs) inside whole is =
    ap (λ o. record { entries = b.start; blocks = record { start = b.start; ends = o } ∷ bs })
    (going_by f p q ns es b.start b.ends whole.0 is)

taken_by : (f : Form) (p q : ℕ → Option Meaning) (ns : List ℕ) (us : List Entry) (o : Option (List Entry))
    → AreWhole o us → ((i : ℕ) → q i ≡ cond (is_one_of ns i) None (p i))
    → option_map (λ ds. entries_left f q ds) (option_map (λ ds. taken ns ds us) o)
    ≡ option_map (λ ds. taken ns ds us) (option_map (λ ds. entries_left f p ds) o)
taken_by f p q ns us None whole is = refl
taken_by f p q ns us (Some ds) whole is = ap Some (ended_taken f p q ns ds us whole is)

pub taken_now : (f : Form) (p q : ℕ → Option Meaning) (ns : List ℕ) (es : List Entry) (bs : List Block)
    → HasWhole es bs → ((i : ℕ) → q i ≡ cond (is_one_of ns i) None (p i))
    → known_left (stages.Ended f) q (component_from ns es bs) ≡ component_from ns es (ends_left f p bs)
taken_now f p q ns es [] whole is = refl
taken_now f p q ns es (b ∷ bs) whole is =
    ap (λ o. record { entries = b.start; blocks = record { start = b.start; ends = o } ∷ bs })
    (taken_by f p q ns (end_of b es) b.ends whole.0 is)

around_by : (f : Form) (p : ℕ → Option Meaning) (ns : List ℕ) (es start : List Entry) (o : Option (List Entry))
    → AreWhole o (outermost (length start) es)
    → option_map (λ ds. entries_left f p ds) (option_map (λ ds. taken ns ds (outermost (length start) es)) o)
    ≡ option_map (λ ds. taken ns ds (outermost (length (entries_left f p start)) (entries_left f p es)))
    (option_map (λ ds. entries_left f p ds) o)
around_by f p ns es start None whole = refl
around_by f p ns es start (Some ds) whole =
    ap Some (around_taken f p ns ds (outermost (length start) es) whole
    ∙ ap (taken ns (entries_left f p ds)) (cut_around f p start es))

pub around_now : (a : ℕ) (f : Form) (p : ℕ → Option Meaning) (ns : List ℕ) (es : List Entry) (bs : List Block)
    → HasWhole es bs
    → known_left (stages.Around f a) p (component_from ns es bs)
    ≡ component_from ns (entries_left f p es) (around_left (suc a) f p bs)
around_now a f p ns es [] whole = refl
around_now a f p ns es (b ∷ bs) whole =
    ap (λ o. record {
      entries = entries_left f p b.start;
      blocks = record { start = entries_left f p b.start; ends = o } ∷ around_left a f p bs;
    }) (around_by f p ns es b.start b.ends whole.0)

pub outer_now : (a : ℕ) (f : Form) (p : ℕ → Option Meaning) (ns : List ℕ) (es : List Entry) (bs : List Block)
    → known_left (stages.EndedAround f a) p (component_from ns es bs)
    ≡ component_from ns es (outer_left (suc a) f p bs)
outer_now a f p ns es [] = refl
outer_now a f p ns es (b ∷ bs) = refl

-- ---- a block ends

end_by : (s : Stage) (p : ℕ → Option Meaning) (es start : List Entry) (o : Option (List Entry)) (bs : List Block)
    → known_left (ended_stage (is_some o) s) p (after_block es (record { start = start; ends = o } ∷ bs))
    ≡ end (known_left s p (record { entries = es; blocks = record { start = start; ends = o } ∷ bs }))
end_by stages.Nothing p es start o bs = refl
end_by (stages.Going f) p es start o bs = refl
end_by (stages.Ended f) p es start None bs = refl
end_by (stages.Ended f) p es start (Some ds) bs = refl
end_by (stages.Around f zero) p es start None [] = refl
end_by (stages.Around f zero) p es start (Some ds) [] = refl
end_by (stages.Around f zero) p es start None (b ∷ bs) = refl
end_by (stages.Around f zero) p es start (Some ds) (b ∷ bs) = refl
end_by (stages.Around f (suc a)) p es start None bs = refl
end_by (stages.Around f (suc a)) p es start (Some ds) bs = refl
end_by (stages.EndedAround f zero) p es start None bs = refl
end_by (stages.EndedAround f zero) p es start (Some ds) bs = refl
end_by (stages.EndedAround f (suc a)) p es start None bs = refl
end_by (stages.EndedAround f (suc a)) p es start (Some ds) bs = refl

pub end_now : (s : Stage) (p : ℕ → Option Meaning) (es : List Entry) (bs : List Block) → is_inside bs ≡ true
    → known_left (ended_stage (has_ends bs) s) p (after_block es bs)
    ≡ end (known_left s p (record { entries = es; blocks = bs }))
end_now s p es [] inside = absurd (cc)
end_now s p es (b ∷ bs) inside = end_by s p es b.start b.ends bs

pub end_outside : (s : Stage) (p : ℕ → Option Meaning) (es : List Entry) (bs : List Block) → is_inside bs ≡ false
    → known_left s p (record { entries = es; blocks = bs })
    ≡ end (known_left s p (record { entries = es; blocks = bs }))
end_outside stages.Nothing p es [] inside = refl
end_outside (stages.Going f) p es [] inside = refl
end_outside (stages.Ended f) p es [] inside = refl
end_outside (stages.Around f a) p es [] inside = refl
end_outside (stages.EndedAround f a) p es [] inside = refl
end_outside s p es (b ∷ bs) inside = absurd (cc)

-- ---- nothing more is put off of an entry

pub released_going : (f : Form) (p q : ℕ → Option Meaning) (n : ℕ) (w : Meaning) (k : Known) → p n ≡ Some w
    → q n ≡ None → ((i : ℕ) → nat_eq n i ≡ false → q i ≡ p i)
    → known_left (stages.Going f) q (record {
      entries = at_number (with_meaning (λ m. of_form f m w)) n k.entries;
      blocks = k.blocks;
    }) ≡ known_left (stages.Going f) p k
released_going f p q n w k is none others =
    ap (λ es. record { entries = es; blocks = k.blocks }) (released f p q n w k.entries is none others)

released_ends : (f : Form) (p q : ℕ → Option Meaning) (n : ℕ) (w : Meaning) (o : Option (List Entry)) → p n ≡ Some w
    → q n ≡ None → ((i : ℕ) → nat_eq n i ≡ false → q i ≡ p i)
    → option_map (λ ds. entries_left f q ds)
    (option_map (λ ds. at_number (with_meaning (λ m. of_form f m w)) n ds) o)
    ≡ option_map (λ ds. entries_left f p ds) o
released_ends f p q n w None is none others = refl
released_ends f p q n w (Some ds) is none others = ap Some (released f p q n w ds is none others)

released_blocks : (f : Form) (p q : ℕ → Option Meaning) (n : ℕ) (w : Meaning) (bs : List Block) → p n ≡ Some w
    → q n ≡ None → ((i : ℕ) → nat_eq n i ≡ false → q i ≡ p i)
    → ends_left f q (changed_ends (λ m. of_form f m w) n bs) ≡ ends_left f p bs
released_blocks f p q n w [] is none others = refl
released_blocks f p q n w (b ∷ bs) is none others =
    ap (λ o. record { start = b.start; ends = o } ∷ bs) (released_ends f p q n w b.ends is none others)

pub released_ended : (f : Form) (p q : ℕ → Option Meaning) (n : ℕ) (w : Meaning) (k : Known) → p n ≡ Some w
    → q n ≡ None → ((i : ℕ) → nat_eq n i ≡ false → q i ≡ p i)
    → known_left (stages.Ended f) q (record {
      entries = k.entries;
      blocks = changed_ends (λ m. of_form f m w) n k.blocks;
    }) ≡ known_left (stages.Ended f) p k
released_ended f p q n w k is none others =
    ap (λ bs. record { entries = k.entries; blocks = bs }) (released_blocks f p q n w k.blocks is none others)

-- the same of the ends of the block around the innermost ones
released_outer : (a : ℕ) (f : Form) (p q : ℕ → Option Meaning) (n : ℕ) (w : Meaning) (bs : List Block) → p n ≡ Some w
    → q n ≡ None → ((i : ℕ) → nat_eq n i ≡ false → q i ≡ p i)
    → outer_left a f q (ends_around a (λ m. of_form f m w) n bs) ≡ outer_left a f p bs
released_outer zero f p q n w bs is none others = released_blocks f p q n w bs is none others
released_outer (suc a) f p q n w [] is none others = refl
released_outer (suc a) f p q n w (b ∷ bs) is none others =
    ap (λ ks. b ∷ ks) (released_outer a f p q n w bs is none others)

pub released_ended_around : (a : ℕ) (f : Form) (p q : ℕ → Option Meaning) (n : ℕ) (w : Meaning) (k : Known)
    → p n ≡ Some w → q n ≡ None → ((i : ℕ) → nat_eq n i ≡ false → q i ≡ p i)
    → known_left (stages.EndedAround f a) q (record {
      entries = k.entries;
      blocks = ends_around (suc a) (λ m. of_form f m w) n k.blocks;
    }) ≡ known_left (stages.EndedAround f a) p k
released_ended_around a f p q n w k is none others =
    ap (λ bs. record { entries = k.entries; blocks = bs }) (released_outer (suc a) f p q n w k.blocks is none others)

-- the same in blocks that began behind
abbrev number_around : ℕ → (Entry → Entry) → ℕ → List Block → List Block
number_around a h n [] = []
number_around zero h n (b ∷ bs) = b ∷ bs
number_around (suc a) h n (b ∷ bs) =
    record { start = at_number h n b.start; ends = option_map (λ ds. at_number h n ds) b.ends }
    ∷ number_around a h n bs

released_both : (a : ℕ) (f : Form) (p q : ℕ → Option Meaning) (n : ℕ) (w : Meaning) (bs : List Block) → p n ≡ Some w
    → q n ≡ None → ((i : ℕ) → nat_eq n i ≡ false → q i ≡ p i)
    → around_left a f q (number_around a (with_meaning (λ m. of_form f m w)) n bs) ≡ around_left a f p bs
released_both a f p q n w [] is none others = refl
released_both zero f p q n w (b ∷ bs) is none others = refl
released_both (suc a) f p q n w (b ∷ bs) is none others =
    λ i. record {
      start = released f p q n w b.start is none others i;
      ends = released_ends f p q n w b.ends is none others i;
    } ∷ released_both a f p q n w bs is none others i

-- an entry means the same where the innermost blocks began, as many as this, and at their ends so far
abbrev pub EndsMean : ℕ → Option (List Entry) → Option Meaning → Type 0
EndsMean n None o = Unit {0}
EndsMean n (Some ds) o = meaning_at n ds ≡ o

abbrev pub MeansSame : ℕ → ℕ → Option Meaning → List Block → Type 0
MeansSame a n o [] = Unit {0}
MeansSame zero n o (b ∷ bs) = Unit {0}
MeansSame (suc a) n o (b ∷ bs) = (meaning_at n b.start ≡ o) × EndsMean n b.ends o × MeansSame a n o bs

ends_to : (g : Meaning → Meaning) (n : ℕ) (m j : Meaning) (x : Option Meaning) (o : Option (List Entry))
    → EndsMean n o x → x ≡ Some j → m ≡ g j
    → option_map (λ ds. changed_to m n ds) o ≡ option_map (λ ds. at_number (with_meaning g) n ds) o
ends_to g n m j x None same there is = refl
ends_to g n m j x (Some ds) same there is = ap Some (changed_by_meaning g n m j ds (same ∙ there) is)

blocks_to : (a : ℕ) (g : Meaning → Meaning) (n : ℕ) (m j : Meaning) (x : Option Meaning) (bs : List Block)
    → MeansSame a n x bs → x ≡ Some j → m ≡ g j
    → changed_around a m n bs ≡ number_around a (with_meaning g) n bs
blocks_to a g n m j x [] same there is = refl
blocks_to zero g n m j x (b ∷ bs) same there is = refl
blocks_to (suc a) g n m j x (b ∷ bs) same there is =
    λ i. record {
      start = changed_by_meaning g n m j b.start (same.0 ∙ there) is i;
      ends = ends_to g n m j x b.ends same.1 there is i;
    } ∷ blocks_to a g n m j x bs same.2 there is i

pub released_around : (a : ℕ) (f : Form) (p q : ℕ → Option Meaning) (n : ℕ) (w j : Meaning) (k : Known)
    → p n ≡ Some w → q n ≡ None → ((i : ℕ) → nat_eq n i ≡ false → q i ≡ p i)
    → MeansSame (suc a) n (meaning_at n k.entries) k.blocks → meaning_at n k.entries ≡ Some j
    → known_left (stages.Around f a) q (known_around (suc a) n (of_form f j w) k)
    ≡ known_left (stages.Around f a) p k
released_around a f p q n w j k is none others same there =
    let g : Meaning → Meaning = λ m. of_form f m w in
    (λ i. record {
      entries = entries_left f q (changed_by_meaning g n (of_form f j w) j k.entries there refl i);
      blocks = around_left (suc a) f q
          (blocks_to (suc a) g n (of_form f j w) j (meaning_at n k.entries) k.blocks same there refl i);
    })
    ∙ (λ i. record {
      entries = released f p q n w k.entries is none others i;
      blocks = released_both (suc a) f p q n w k.blocks is none others i;
    })

-- the same function of numbers
pub left_alike : (s : Stage) (p q : ℕ → Option Meaning) (k : Known) → ((i : ℕ) → q i ≡ p i)
    → known_left s q k ≡ known_left s p k
left_alike s p q k same = λ i. known_left s (λ n. same n i) k

none_ends : (f : Form) (p : ℕ → Option Meaning) (o : Option (List Entry)) → ((i : ℕ) → p i ≡ None)
    → option_map (λ ds. entries_left f p ds) o ≡ o
none_ends f p None none = refl
none_ends f p (Some ds) none = ap Some (none_left f p ds none)

none_blocks : (f : Form) (p : ℕ → Option Meaning) (bs : List Block) → ((i : ℕ) → p i ≡ None)
    → ends_left f p bs ≡ bs
none_blocks f p [] none = refl
none_blocks f p (b ∷ bs) none =
    ap (λ o. record { start = b.start; ends = o } ∷ bs) (none_ends f p b.ends none)

none_around : (a : ℕ) (f : Form) (p : ℕ → Option Meaning) (bs : List Block) → ((i : ℕ) → p i ≡ None)
    → around_left a f p bs ≡ bs
none_around a f p [] none = refl
none_around zero f p (b ∷ bs) none = refl
none_around (suc a) f p (b ∷ bs) none =
    λ i. record { start = none_left f p b.start none i; ends = none_ends f p b.ends none i }
    ∷ none_around a f p bs none i

none_outer : (a : ℕ) (f : Form) (p : ℕ → Option Meaning) (bs : List Block) → ((i : ℕ) → p i ≡ None)
    → outer_left a f p bs ≡ bs
none_outer zero f p bs none = none_blocks f p bs none
none_outer (suc a) f p [] none = refl
none_outer (suc a) f p (b ∷ bs) none = ap (λ ks. b ∷ ks) (none_outer a f p bs none)

pub none_now : (s : Stage) (p : ℕ → Option Meaning) (k : Known) → ((i : ℕ) → p i ≡ None) → known_left s p k ≡ k
none_now stages.Nothing p k none = refl
none_now (stages.Going f) p k none =
    ap (λ es. record { entries = es; blocks = k.blocks }) (none_left f p k.entries none)
none_now (stages.Ended f) p k none =
    ap (λ bs. record { entries = k.entries; blocks = bs }) (none_blocks f p k.blocks none)
none_now (stages.Around f a) p k none =
    λ i. record { entries = none_left f p k.entries none i; blocks = none_around (suc a) f p k.blocks none i }
none_now (stages.EndedAround f a) p k none =
    ap (λ bs. record { entries = k.entries; blocks = bs }) (none_outer (suc a) f p k.blocks none)
