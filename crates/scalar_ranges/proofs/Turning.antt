-- What the program makes of its slots and blocks is the move that the definitions make of them.
use Rattle.std.proofs.Common.{◌≡◌, ℕ, Bool, true, false, cond, List, [], ◌∷◌, ◌++◌, length, map, take, sym, ap}
use Rattle.std.proofs.Common.{subst, ◌∙◌, refl, Option, Some, None, option_map, suc, ◌≤◌, arith}
use Rattle.std.proofs.lemmas.List.{take-map, map-append, length-map}
use Rattle.scalar_ranges.specs.declared.changes.Tracked as code_tracked
use Rattle.scalar_ranges.specs.Entries.{Entry, Meaning}
use Rattle.scalar_ranges.specs.declared.slots.Slot as code_slot
use Rattle.scalar_ranges.specs.declared.slots.Change as code_change
use Rattle.scalar_ranges.specs.declared.slots.Branching as code_branching
use Rattle.scalar_ranges.specs.Changes.{Slot, Branching, Tracked, modify, undone, before, numbers_of, AreTracked}
use Rattle.scalar_ranges.specs.Changes.{turned_slots, turned_block, next_in, component_slots, component_block}
use Rattle.scalar_ranges.specs.Changes.{component_in, meaning_after, puts, ended_in, fresh, cut}
use Rattle.scalar_ranges.specs.Changes.{noted, put_by, put_if, known_if, known_in, Follows}
use Rattle.scalar_ranges.specs.Changes.{handed, handed_block, handed_over, HandsOver}
use Rattle.scalar_ranges.specs.Moves.{Known, end}
use Rattle.scalar_ranges.specs.ChangeViews.{slot_of, slots_from, change_of, changes_from, branching_of}
use Rattle.scalar_ranges.specs.ChangeViews.{branchings_from}
use Rattle.scalar_ranges.specs.ChangeViews.{meaning_of, tracked_from, put_afters, known_afters, AfterBlock}
use Rattle.scalar_ranges.specs.ChangeViews.{BelongTogether}
use Rattle.scalar_ranges.specs.TrackedViews.{tracked_of}
use Rattle.scalar_ranges.proofs.Following.{begun_follows, put_follows}
use Rattle.scalar_ranges.proofs.HandingOver.{handed_follows, list_fits, began_before}
use Rattle.scalar_ranges.proofs.Cutting.{declared_tracked}
use Rattle.scalar_ranges.proofs.SlotLoops.{slots_modified, puts_are}
use Rattle.scalar_ranges.proofs.Noting.{Innermost, branchings_apart, put_back}

slots_cut : (slots cut : List code_slot.Slot) (count : ℕ) → cut ≡ take count slots
    → slots_from cut ≡ take count (slots_from slots)
slots_cut slots cut count is = ap slots_from is ∙ sym (take-map slot_of count slots)

-- what belongs together after a move
pub kept : {t u : Tracked} → t ≡ u → AreTracked u.slots u.blocks → AreTracked t.slots t.blocks
kept is tracked = subst (λ t. AreTracked t.slots t.blocks) (sym is) tracked

-- what is known after a move
pub followed : {t u : Tracked} (k : Known) → t ≡ u → Follows u k → Follows t k
followed k is follows = subst (λ t. Follows t k) (sym is) follows

pub known_is : {t : Tracked} {k : Known} → Follows t k → known_in t ≡ k
known_is follows = λ i. record { entries = follows.entries i; blocks = follows.blocks i }

-- one entry more, if there was memory for it
pub declared_is : (t : Bool) (e : Entry) (slots now : List code_slot.Slot) (blocks : List code_branching.Branching)
    (x : code_slot.Slot) → now ≡ cond t (slots ++ x ∷ []) slots → slot_of x ≡ fresh e → BelongTogether slots blocks
    → BelongTogether now blocks
declared_is true e slots now blocks x is seen tracked =
    let more = ap slots_from is ∙ map-append slot_of slots (x ∷ []) ∙ ap (λ s. slots_from slots ++ s ∷ []) seen in
    subst (λ ss. AreTracked ss (branchings_from blocks)) (sym more)
    (declared_tracked e (slots_from slots) (branchings_from blocks) tracked)
declared_is false e slots now blocks x is seen tracked = subst (λ ks. BelongTogether ks blocks) (sym is) tracked

pub cut_is : (count : ℕ) (slots now : List code_slot.Slot) (blocks : List Branching) → now ≡ take count slots
    → record { slots = slots_from now; blocks = blocks }
    ≡ cut count (record { slots = slots_from slots; blocks = blocks })
cut_is count slots now blocks is = λ i. record { slots = slots_cut slots now count is i; blocks = blocks }

-- an entry means something else, once the innermost block and its branch have it in their lists
pub put_is : (f : Slot → Slot) (n : ℕ) (old both : code_tracked.Tracked) (lent now all : List code_slot.Slot)
    → tracked_of both ≡ noted n (tracked_of old).slots (tracked_of old).blocks → lent ≡ both.slots.items
    → slots_from now ≡ modify f n (slots_from lent) → all ≡ now
    → tracked_from all both.blocks.items ≡ put_by f n (tracked_of old)
put_is f n old both lent now all noting same changes whole =
    let changed = slots_modified f n same changes whole in
    (λ i. record { slots = changed i; blocks = branchings_from both.blocks.items })
    ∙ ap (λ (k : Tracked). record { slots = modify f n k.slots; blocks = k.blocks }) noting

-- a block more, if there was memory for it
pub begun_is : (t ended : Bool) (slots : List code_slot.Slot) (blocks now : List code_branching.Branching)
    (b : code_branching.Branching) → now ≡ cond t (blocks ++ b ∷ []) blocks
    → branching_of b ≡ record {
      count = length (slots_from slots);
      ended = ended;
      even = true;
      changes = [];
      earlier = [];
      recent = [];
    } → BelongTogether slots blocks → BelongTogether slots now
begun_is true ended slots blocks now b is seen tracked =
    let more = branchings_apart now blocks b is ∙ ap (λ k. k ∷ branchings_from blocks) seen in
    subst (AreTracked (slots_from slots)) (sym more)
    (begun_follows ended (record { slots = slots_from slots; blocks = branchings_from blocks }) tracked).tracked
begun_is false ended slots blocks now b is seen tracked = subst (BelongTogether slots) (sym is) tracked

-- ---- a branch ends

pub next_is : (depth : ℕ) (slots cut lent now whole : List code_slot.Slot)
    (blocks rest all : List code_branching.Branching) (b after : code_branching.Branching)
    → Innermost blocks rest b depth → cut ≡ take b.count slots → lent ≡ cut
    → slots_from now ≡ turned_slots depth (branching_of b) (slots_from lent) → whole ≡ now → all ≡ rest ++ after ∷ []
    → branching_of after ≡ turned_block (branching_of b)
    → tracked_from whole all ≡ next_in (slots_from slots) (branchings_from blocks)
next_is depth slots cut lent now whole blocks rest all b after inner taken same turning is pushed goes_on =
    let changed = ap slots_from is ∙ turning ∙ (λ i. turned_slots (inner.deep i) (branching_of b)
    ((ap slots_from same ∙ slots_cut slots cut b.count taken) i)) in
    put_back whole rest all after changed pushed goes_on ∙ ap (next_in (slots_from slots)) (sym inner.seen)

pub component_is : (numbers : List ℕ) (depth : ℕ) (slots cut lent now whole : List code_slot.Slot)
    (blocks rest all : List code_branching.Branching) (b after : code_branching.Branching)
    → Innermost blocks rest b depth → cut ≡ take b.count slots → lent ≡ cut
    → slots_from now ≡ component_slots numbers depth (branching_of b) (slots_from lent)
    → whole ≡ now → all ≡ rest ++ after ∷ [] → branching_of after ≡ component_block (branching_of b)
    → tracked_from whole all ≡ component_in numbers (slots_from slots) (branchings_from blocks)
component_is numbers depth slots cut lent now whole blocks rest all b after inner taken same turning is pushed goes_on =
    let changed = ap slots_from is ∙ turning ∙ (λ i. component_slots numbers (inner.deep i) (branching_of b)
    ((ap slots_from same ∙ slots_cut slots cut b.count taken) i)) in
    put_back whole rest all after changed pushed goes_on ∙ ap (component_in numbers (slots_from slots)) (sym inner.seen)

-- ---- a block ends

-- the slots where it began, with what each entry means after it
pub record TakenBack (slots back : List code_slot.Slot) (changes : List code_change.Change) (depth : ℕ)
    (b : code_branching.Branching) : Type 0 where
  pub same : changes_from changes ≡ changes_from b.changes.items
  pub after : AfterBlock (map (meaning_after depth b.ended) (take b.count (slots_from slots))) changes
  pub begins : slots_from back ≡ before (branching_of b) (slots_from slots)

pub taken_back : (slots cut lent now back : List code_slot.Slot) (listed changes : List code_change.Change)
    (depth : ℕ) (b : code_branching.Branching) → cut ≡ take b.count slots → lent ≡ cut → listed ≡ b.changes.items
    → changes_from changes ≡ changes_from listed
    → AfterBlock (map (meaning_after depth b.ended) (slots_from lent)) changes
    → slots_from now ≡ undone (changes_from listed) (slots_from lent) → back ≡ now
    → TakenBack slots back changes depth b
taken_back slots cut lent now back listed changes depth b taken same is all concluding undoing whole =
    let seen = ap slots_from same ∙ slots_cut slots cut b.count taken in
    record {
      same = all ∙ ap changes_from is;
      after = subst (λ ss. AfterBlock (map (meaning_after depth b.ended) ss) changes) seen concluding;
      begins = ap slots_from whole ∙ undoing ∙ (λ i. undone (changes_from (is i)) (seen i));
    }

-- What is known after changes does not depend on whether lists note those that change nothing.
known_put : (o : Option Meaning) (n : ℕ) (t : Tracked) → AreTracked t.slots t.blocks
    → known_if o n (known_in t) ≡ known_in (put_if o n t)
known_put None n t tracked = refl
known_put (Some m) n t tracked = sym (known_is (put_follows n m t tracked))

put_keeps : (o : Option Meaning) (n : ℕ) (t : Tracked) → AreTracked t.slots t.blocks
    → AreTracked (put_if o n t).slots (put_if o n t).blocks
put_keeps None n t tracked = tracked
put_keeps (Some m) n t tracked = (put_follows n m t tracked).tracked

pub afters_known : (cs : List code_change.Change) (t : Tracked) → AreTracked t.slots t.blocks
    → known_afters cs (known_in t) ≡ known_in (put_afters cs t)
afters_known [] t tracked = refl
afters_known (c ∷ cs) t tracked =
    let o = option_map meaning_of c.after in
    ap (known_afters cs) (known_put o c.number t tracked)
    ∙ afters_known cs (put_if o c.number t) (put_keeps o c.number t tracked)

-- what is around the block belongs together
pub around : (depth : ℕ) (slots back : List code_slot.Slot) (blocks rest : List code_branching.Branching)
    (b : code_branching.Branching) → Innermost blocks rest b depth
    → slots_from back ≡ before (branching_of b) (slots_from slots) → BelongTogether slots blocks
    → BelongTogether back rest
around depth slots back blocks rest b inner is tracked =
    let here = subst (AreTracked (slots_from slots)) inner.seen tracked in
    subst (λ ss. AreTracked ss (branchings_from rest)) (sym is) here.3

pub end_is : (depth : ℕ) (slots back : List code_slot.Slot) (blocks rest : List code_branching.Branching)
    (b : code_branching.Branching) (changes lent : List code_change.Change) (after : Tracked)
    → Innermost blocks rest b depth → TakenBack slots back changes depth b → lent ≡ changes
    → after ≡ put_afters lent (tracked_from back rest) → after ≡ ended_in (slots_from slots) (branchings_from blocks)
end_is depth slots back blocks rest b changes lent after inner begins same putting =
    let bs = branchings_from rest in
    let ms = map (meaning_after depth b.ended) (take b.count (slots_from slots)) in
    putting ∙ ap (λ cs. put_afters cs (tracked_from back rest)) same
    ∙ puts_are ms changes (tracked_from back rest) begins.after
    ∙ (λ i. puts (numbers_of (begins.same i))
    (map (meaning_after (inner.deep i) b.ended) (take b.count (slots_from slots)))
    (record { slots = begins.begins i; blocks = bs }))
    ∙ ap (ended_in (slots_from slots)) (sym inner.seen)

-- ---- a block ends, and the block around has its list

-- the two innermost blocks apart
pub both_apart : (blocks middle rest : List code_branching.Branching) (b o : code_branching.Branching)
    → blocks ≡ middle ++ b ∷ [] → middle ≡ rest ++ o ∷ []
    → branchings_from blocks ≡ branching_of b ∷ branching_of o ∷ branchings_from rest
both_apart blocks middle rest b o is next =
    branchings_apart blocks middle b is ∙ ap (λ k. branching_of b ∷ k) (branchings_apart middle rest o next)

pub over_is : (inner outer : ℕ) (slots cut lent now whole : List code_slot.Slot)
    (listed : List code_change.Change) (rest all : List code_branching.Branching)
    (b o after : code_branching.Branching) → outer ≡ suc (length (branchings_from rest)) → inner ≡ suc outer
    → cut ≡ take b.count slots → lent ≡ cut → listed ≡ b.changes.items
    → slots_from now ≡ handed inner outer b.ended (changes_from listed) (slots_from lent) → whole ≡ now
    → all ≡ rest ++ after ∷ [] → branching_of after ≡ handed_block (changes_from b.changes.items) (branching_of o)
    → tracked_from whole all
    ≡ handed_over (slots_from slots) (branching_of b) (branching_of o) (branchings_from rest)
over_is inner outer slots cut lent now whole listed rest all b o after deep more taken same its handing is pushed has =
    let changed = ap slots_from is ∙ handing ∙ (λ i. handed ((more ∙ ap suc deep) i) (deep i) b.ended
    (changes_from (its i)) ((ap slots_from same ∙ slots_cut slots cut b.count taken) i)) in
    put_back whole rest all after changed pushed has

-- what is known then
pub over_follows : (slots : List code_slot.Slot) (blocks rest : List code_branching.Branching)
    (b o : code_branching.Branching)
    → branchings_from blocks ≡ branching_of b ∷ branching_of o ∷ branchings_from rest → BelongTogether slots blocks
    → HandsOver (branchings_from blocks)
    → Follows (handed_over (slots_from slots) (branching_of b) (branching_of o) (branchings_from rest))
    (end (known_in (tracked_from slots blocks)))
over_follows slots blocks rest b o seen tracked hands =
    let ss = slots_from slots in
    let has = subst HandsOver seen hands in
    subst (λ bs. Follows (handed_over ss (branching_of b) (branching_of o) (branchings_from rest))
    (end (known_in (record { slots = ss; blocks = bs })))) (sym seen)
    (handed_follows ss (branching_of b) (branching_of o) (branchings_from rest) (subst (AreTracked ss) seen tracked)
    has.0 has.1 has.2)

-- that the block around can have the list
pub record Fits (b o : code_branching.Branching) : Type 0 where
  pub count : o.count ≤ b.count
  pub room : length b.changes.items ≤ o.count
  pub none : o.recent.items ≡ []

pub over_fits : (slots : List code_slot.Slot) (blocks rest : List code_branching.Branching)
    (b o : code_branching.Branching)
    → branchings_from blocks ≡ branching_of b ∷ branching_of o ∷ branchings_from rest → BelongTogether slots blocks
    → HandsOver (branchings_from blocks) → Fits b o
over_fits slots blocks rest b o seen tracked hands =
    let ss = slots_from slots in
    let here = subst (AreTracked ss) seen tracked in
    let has = subst HandsOver seen hands in
    let long = length-map b.changes.items change_of in
    let fits = list_fits ss (branching_of b) (branching_of o) (branchings_from rest) here has.0 has.1 has.2 in
    record {
      count = began_before ss (branching_of b) (branching_of o) (branchings_from rest) here has.0 has.1 has.2;
      room = omega arith;
      none = has.1;
    }
