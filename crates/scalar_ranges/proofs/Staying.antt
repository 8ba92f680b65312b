-- What is put off apart from blocks stays so where the blocks change.
use Rattle.std.proofs.Common.{◌≡◌, ℕ, zero, suc, ◌<◌, Bool, true, false, cond, List, [], ◌∷◌, ◌++◌, length, refl, sym}
use Rattle.std.proofs.Common.{ap, subst, arith, ◌∙◌, nat_eq, get_or, Option, Some, None, take}
use Rattle.scalar_ranges.specs.declared.slots.Branching as code_branching
use Rattle.scalar_ranges.specs.declared.slots.Change as code_change
use Rattle.scalar_ranges.specs.Entries.{Meaning}
use Rattle.scalar_ranges.specs.Environments.{item_at}
use Rattle.scalar_ranges.specs.Changes.{Slot, Change, Branching, Tracked, modify, marked, listing, note_if, touch}
use Rattle.scalar_ranges.specs.Changes.{touch_if, is_open, put_by, turned_block, component_block, handed_block}
use Rattle.scalar_ranges.specs.ChangeViews.{changes_from, branching_of, branchings_from}
use Rattle.scalar_ranges.specs.Deferring.{AreNone, IsApart, AreApart, StayApart, IsLeft}
use Rattle.scalar_ranges.proofs.Noting.{branchings_apart}

none_fewer : (p q : ℕ → Option Meaning) (cs : List Change) → ((i : ℕ) → p i ≡ None → q i ≡ None) → AreNone p cs
    → AreNone q cs
none_fewer p q [] fewer none = tt
none_fewer p q (c ∷ cs) fewer none = (fewer c.number none.0, none_fewer p q cs fewer none.1)

-- less is put off
pub fewer_apart : (p q : ℕ → Option Meaning) (a : ℕ) (bs : List Branching) → ((i : ℕ) → p i ≡ None → q i ≡ None)
    → AreApart p a bs → AreApart q a bs
fewer_apart p q a [] fewer apart = absurd apart
fewer_apart p q zero (b ∷ bs) fewer apart = tt
fewer_apart p q (suc a) (b ∷ bs) fewer apart = (
  (none_fewer p q b.changes fewer apart.0.0, λ i least. fewer i (apart.0.1 i least)),
  fewer_apart p q a bs fewer apart.1,
)

-- ---- the innermost block changes

first_apart : (p : ℕ → Option Meaning) (a : ℕ) (b c : Branching) (bs : List Branching) → (IsApart p b → IsApart p c)
    → AreApart p a (b ∷ bs) → AreApart p a (c ∷ bs)
first_apart p zero b c bs stays apart = tt
first_apart p (suc a) b c bs stays apart = (stays apart.0, apart.1)

stays_by : (f : Branching → Branching) → ((p : ℕ → Option Meaning) (b : Branching) → IsApart p b → IsApart p (f b))
    → (blocks rest all : List code_branching.Branching) (b after : code_branching.Branching)
    → blocks ≡ rest ++ b ∷ [] → all ≡ rest ++ after ∷ [] → branching_of after ≡ f (branching_of b)
    → (a : ℕ) → StayApart a (branchings_from blocks) a (branchings_from all)
stays_by f stays blocks rest all b after is pushed changed = λ a p apart.
    subst (AreApart p a)
    (sym (branchings_apart all rest after pushed ∙ ap (λ k. k ∷ branchings_from rest) changed))
    (first_apart p a (branching_of b) (f (branching_of b)) (branchings_from rest) (stays p (branching_of b))
    (subst (AreApart p a) (branchings_apart blocks rest b is) apart))

-- where a branch ends
pub stays_turned : (blocks rest all : List code_branching.Branching) (b after : code_branching.Branching)
    → blocks ≡ rest ++ b ∷ [] → all ≡ rest ++ after ∷ [] → branching_of after ≡ turned_block (branching_of b)
    → (a : ℕ) → StayApart a (branchings_from blocks) a (branchings_from all)
stays_turned blocks rest all b after is pushed changed =
    stays_by turned_block (λ p k apart. apart) blocks rest all b after is pushed changed

-- where a component ends
pub stays_component : (blocks rest all : List code_branching.Branching) (b after : code_branching.Branching)
    → blocks ≡ rest ++ b ∷ [] → all ≡ rest ++ after ∷ [] → branching_of after ≡ component_block (branching_of b)
    → (a : ℕ) → StayApart a (branchings_from blocks) a (branchings_from all)
stays_component blocks rest all b after is pushed changed =
    stays_by component_block (λ p k apart. apart) blocks rest all b after is pushed changed

-- ---- an entry of which nothing is put off comes to its list

none_more : (p : ℕ → Option Meaning) (cs : List Change) (c : Change) → AreNone p cs → p c.number ≡ None
    → AreNone p (cs ++ c ∷ [])
none_more p [] c none new = (new, tt)
none_more p (k ∷ cs) c none new = (none.0, none_more p cs c none.1 new)

touched_apart : (t : Bool) (p : ℕ → Option Meaning) (a n : ℕ) (ss : List Slot) (b : Branching) (bs : List Branching)
    → AreApart p a (b ∷ bs) → AreApart p a (touch_if t n ss b bs).blocks
touched_apart true p zero n ss b bs apart = tt
touched_apart true p (suc a) n ss b bs apart = apart
touched_apart false p a n ss b bs apart = apart

noted_by : (t : Bool) (p : ℕ → Option Meaning) (a n d : ℕ) (ss : List Slot) (b : Branching) (bs : List Branching)
    (s : Slot) (k : Tracked) → k ≡ cond t (record { slots = ss; blocks = b ∷ bs })
    (record { slots = modify (marked d) n ss; blocks = listing n s b ∷ bs }) → p n ≡ None → AreApart p a (b ∷ bs)
    → AreApart p a (touch n k.slots k.blocks).blocks
noted_by true p a n d ss b bs s k is none apart =
    subst (λ (j : Tracked). AreApart p a (touch n j.slots j.blocks).blocks) (sym is)
    (touched_apart (is_open n ss (b ∷ bs)) p a n ss b bs apart)
noted_by false p a n d ss b bs s k is none apart =
    subst (λ (j : Tracked). AreApart p a (touch n j.slots j.blocks).blocks) (sym is)
    (touched_apart (is_open n (modify (marked d) n ss) (listing n s b ∷ bs)) p a n (modify (marked d) n ss)
    (listing n s b) bs (first_apart p a b (listing n s b) bs
    (λ it. (none_more p b.changes (record { number = n; before = s }) it.0 none, it.1)) apart))

noted_or : (x : Option Slot) (p : ℕ → Option Meaning) (a n d : ℕ) (ss : List Slot) (b : Branching)
    (bs : List Branching) → p n ≡ None → AreApart p a (b ∷ bs)
    → AreApart p a (touch n (note_if d n ss b bs x).slots (note_if d n ss b bs x).blocks).blocks
noted_or None p a n d ss b bs none apart = touched_apart (is_open n ss (b ∷ bs)) p a n ss b bs apart
noted_or (Some s) p a n d ss b bs none apart =
    noted_by (nat_eq s.mark d) p a n d ss b bs s (note_if d n ss b bs (Some s)) refl none apart

pub put_apart : (p : ℕ → Option Meaning) (f : Slot → Slot) (a n : ℕ) (ss : List Slot) (bs : List Branching)
    → p n ≡ None → AreApart p a bs → AreApart p a (put_by f n (record { slots = ss; blocks = bs })).blocks
put_apart p f a n ss [] none apart = absurd apart
put_apart p f a n ss (b ∷ bs) none apart =
    noted_or (item_at n (take b.count ss)) p a n (suc (length bs)) ss b bs none apart

-- one of a list of which nothing is put off
pub none_at : (p : ℕ → Option Meaning) (cs : List code_change.Change) (i : ℕ) (c : code_change.Change)
    → i < length cs → c ≡ get_or cs i c → AreNone p (changes_from cs) → p c.number ≡ None
none_at p [] i c less found none = absurd (omega arith)
none_at p (k ∷ cs) zero c less found none = ap (λ (j : code_change.Change). p j.number) found ∙ none.0
none_at p (k ∷ cs) (suc i) c less found none = none_at p cs i c (omega arith) found none.1

-- ---- a block ends

handed_apart : (p : ℕ → Option Meaning) (a : ℕ) (b o : Branching) (bs : List Branching)
    → AreApart p (suc a) (b ∷ o ∷ bs) → AreApart p a (handed_block b.changes o ∷ bs)
handed_apart p zero b o bs apart = tt
handed_apart p (suc a) b o bs apart = ((apart.0.0, apart.1.0.1), apart.1.1)

-- the block around has its list
pub stays_handed : (blocks rest all : List code_branching.Branching) (b o after : code_branching.Branching)
    → branchings_from blocks ≡ branching_of b ∷ branching_of o ∷ branchings_from rest → all ≡ rest ++ after ∷ []
    → branching_of after ≡ handed_block (changes_from b.changes.items) (branching_of o)
    → (a : ℕ) → StayApart (suc a) (branchings_from blocks) a (branchings_from all)
stays_handed blocks rest all b o after seen pushed changed = λ a p apart.
    subst (AreApart p a)
    (sym (branchings_apart all rest after pushed ∙ ap (λ k. k ∷ branchings_from rest) changed))
    (handed_apart p a (branching_of b) (branching_of o) (branchings_from rest)
    (subst (AreApart p (suc a)) seen apart))

-- its list is left
pub left_apart : (blocks rest : List code_branching.Branching) (b : code_branching.Branching)
    (changes : List code_change.Change) → branchings_from blocks ≡ branching_of b ∷ branchings_from rest
    → changes_from changes ≡ changes_from b.changes.items
    → IsLeft (changes_from changes) (branchings_from blocks) (branchings_from rest)
left_apart blocks rest b changes seen same = λ p a apart.
    let both = subst (AreApart p (suc a)) seen apart in (subst (AreNone p) (sym same) both.0.0, both.1)
