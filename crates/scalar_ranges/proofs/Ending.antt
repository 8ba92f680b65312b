-- A block that ends, by the lists of changes.
use Rattle.std.proofs.Common.{◌≡◌, ℕ, zero, suc, Bool, true, false, cond, List, [], ◌∷◌, length, map}
use Rattle.std.proofs.Common.{reverse, take, Option, Some, None, refl, sym, ap, subst, arith, ◌∙◌, nat_eq, option_map}
use Rattle.std.specs.Prelude.{unwrap_or}
use Rattle.std.proofs.lemmas.List.{length-map}
use Rattle.std.proofs.lemmas.Bool.{eqb-true}
use Rattle.scalar_ranges.specs.Entries.{Meaning, Entry}
use Rattle.scalar_ranges.specs.Environments.{item_at}
use Rattle.scalar_ranges.specs.Moves.{is_one_of, end}
use Rattle.scalar_ranges.specs.Changes.{Slot, Change, Branching, Tracked, modify, entry_in, start_in, end_in, restored}
use Rattle.scalar_ranges.specs.Changes.{undone, before, seen, ends_seen, blocks_in, numbers_of}
use Rattle.scalar_ranges.specs.Changes.{AreTracked, noted, with_new, meaning_after, put_if, puts, ended_in, Follows}
use Rattle.scalar_ranges.proofs.Numbered.{modify_long, map_modify, map_unmodified}
use Rattle.scalar_ranges.proofs.Numbered.{other_item, same_items, map_again, item_mapped}
use Rattle.scalar_ranges.proofs.Tracking.{first_not, second_not}
use Rattle.scalar_ranges.proofs.Touching.{notes_well}
use Rattle.scalar_ranges.proofs.Following.{put_follows}

-- ---- a block ends

pub undone_other : (cs : List Change) (i : ℕ) (ss : List Slot) → is_one_of (numbers_of cs) i ≡ false
    → item_at i (undone cs ss) ≡ item_at i ss
undone_other [] i ss others = refl
undone_other (c ∷ cs) i ss others =
    let listed = is_one_of (numbers_of cs) i in
    other_item (restored c.before) c.number i (undone cs ss) (first_not (nat_eq c.number i) listed others)
    ∙ undone_other cs i ss (second_not (nat_eq c.number i) listed others)

pub undone_names : (cs : List Change) (ss : List Slot)
    → map (λ (s : Slot). s.name) (undone cs ss) ≡ map (λ (s : Slot). s.name) ss
undone_names [] ss = refl
undone_names (c ∷ cs) ss =
    map_unmodified (λ (s : Slot). s.name) (restored c.before) c.number (undone cs ss) (λ s is. refl)
    ∙ undone_names cs ss

pub undone_long : (cs : List Change) (ss : List Slot) → length (undone cs ss) ≡ length ss
undone_long [] ss = refl
undone_long (c ∷ cs) ss = modify_long (restored c.before) c.number (undone cs ss) ∙ undone_long cs ss

-- items with these numbers become those of a list
abbrev set_to : {A : Type 0} → Option A → ℕ → List A → List A
set_to None n xs = xs
set_to (Some y) n xs = modify (λ x. y) n xs

abbrev settled : {A : Type 0} → List ℕ → List A → List A → List A
settled [] ys xs = xs
settled (n ∷ ns) ys xs = settled ns ys (set_to (item_at n ys) n xs)

set_long : {A : Type 0} (o : Option A) (n : ℕ) (xs : List A) → length (set_to o n xs) ≡ length xs
set_long None n xs = refl
set_long (Some y) n xs = modify_long (λ x. y) n xs

same_place : {A : Type 0} (n : ℕ) (xs ys : List A) (y : A) → length xs ≡ length ys → item_at n ys ≡ Some y
    → item_at n (modify (λ x. y) n xs) ≡ Some y
same_place n xs [] y long is = absurd (cc)
same_place n [] (z ∷ ys) y long is = absurd (omega arith)
same_place zero (x ∷ xs) (z ∷ ys) y long is = refl
same_place (suc n) (x ∷ xs) (z ∷ ys) y long is = same_place n xs ys y (omega arith) is

none_there : {A : Type 0} (n : ℕ) (xs ys : List A) → length xs ≡ length ys → item_at n ys ≡ None
    → item_at n xs ≡ None
none_there n [] ys long is = refl
none_there n (x ∷ xs) [] long is = absurd (omega arith)
none_there zero (x ∷ xs) (y ∷ ys) long is = absurd (cc)
none_there (suc n) (x ∷ xs) (y ∷ ys) long is = none_there n xs ys (omega arith) is

set_here : {A : Type 0} (o : Option A) (n : ℕ) (xs ys : List A) → length xs ≡ length ys → item_at n ys ≡ o
    → item_at n (set_to o n xs) ≡ item_at n ys
set_here None n xs ys long is = none_there n xs ys long is ∙ sym is
set_here (Some y) n xs ys long is = same_place n xs ys y long is ∙ sym is

set_other : {A : Type 0} (o : Option A) (n i : ℕ) (xs : List A) → nat_eq n i ≡ false
    → item_at i (set_to o n xs) ≡ item_at i xs
set_other None n i xs apart = refl
set_other (Some y) n i xs apart = other_item (λ x. y) n i xs apart

not_in : (t u : Bool) → t ≡ false → u ≡ false → cond t true u ≡ false
not_in true u h k = h
not_in false u h k = k

set_by : {A : Type 0} (t : Bool) (ns : List ℕ) (n i : ℕ) (xs ys : List A) → nat_eq n i ≡ t → length xs ≡ length ys
    → ((k : ℕ) → is_one_of (n ∷ ns) k ≡ false → item_at k xs ≡ item_at k ys) → is_one_of ns i ≡ false
    → item_at i (set_to (item_at n ys) n xs) ≡ item_at i ys
set_by true ns n i xs ys test long same others =
    let is = eqb-true n i test in
    subst (λ k. item_at k (set_to (item_at n ys) n xs) ≡ item_at k ys) is
    (set_here (item_at n ys) n xs ys long refl)
set_by false ns n i xs ys test long same others =
    set_other (item_at n ys) n i xs test ∙ same i (not_in (nat_eq n i) (is_one_of ns i) test others)

settles : {A : Type 0} (ns : List ℕ) (ys xs : List A) → length xs ≡ length ys
    → ((i : ℕ) → is_one_of ns i ≡ false → item_at i xs ≡ item_at i ys) → settled ns ys xs ≡ ys
settles [] ys xs long same = same_items xs ys (λ i. same i refl)
settles (n ∷ ns) ys xs long same =
    settles ns ys (set_to (item_at n ys) n xs) (set_long (item_at n ys) n xs ∙ long)
    (λ i others. set_by (nat_eq n i) ns n i xs ys refl long same others)

-- what the entries mean after all of these changes
abbrev meanings_of : List Slot → List Meaning
meanings_of ss = map (λ (s : Slot). s.meaning) ss

abbrev names_of_slots : List Slot → List (List ℕ)
names_of_slots ss = map (λ (s : Slot). s.name) ss

meanings_seen : (ss : List Slot) → meanings_of ss ≡ map (λ (e : Entry). e.meaning) (map entry_in ss)
meanings_seen ss = sym (map_again (λ (e : Entry). e.meaning) entry_in (λ (s : Slot). s.meaning) ss (λ s. refl))

names_seen : (ss : List Slot) → names_of_slots ss ≡ map (λ (e : Entry). e.name) (map entry_in ss)
names_seen ss = sym (map_again (λ (e : Entry). e.name) entry_in (λ (s : Slot). s.name) ss (λ s. refl))

-- the slots, names and blocks after some entries were changed so
record PutsWell (ns : List ℕ) (ms : List Meaning) (t after : Tracked) : Type 0 where
  names : names_of_slots after.slots ≡ names_of_slots t.slots
  meanings : meanings_of after.slots ≡ settled ns ms (meanings_of t.slots)
  blocks : blocks_in after.slots after.blocks ≡ blocks_in t.slots t.blocks
  tracked : AreTracked after.slots after.blocks

record PutWell (o : Option Meaning) (n : ℕ) (t after : Tracked) : Type 0 where
  names : names_of_slots after.slots ≡ names_of_slots t.slots
  meanings : meanings_of after.slots ≡ set_to o n (meanings_of t.slots)
  blocks : blocks_in after.slots after.blocks ≡ blocks_in t.slots t.blocks
  tracked : AreTracked after.slots after.blocks

put_well : (o : Option Meaning) (n : ℕ) (t : Tracked) → AreTracked t.slots t.blocks → PutWell o n t (put_if o n t)
put_well None n t tracked = record { names = refl; meanings = refl; blocks = refl; tracked = tracked }
put_well (Some m) n t tracked =
    let listed = noted n t.slots t.blocks in
    let well = notes_well n t.slots t.blocks tracked in
    let follows = put_follows n m t tracked in
    record {
      names = map_unmodified (λ (s : Slot). s.name) (with_new m) n listed.slots (λ s is. refl)
          ∙ names_seen listed.slots ∙ ap (map (λ (e : Entry). e.name)) well.entries ∙ sym (names_seen t.slots);
      meanings = map_modify (λ (s : Slot). s.meaning) (with_new m) (λ k. m) n listed.slots (λ s is. refl)
          ∙ ap (modify (λ k. m) n) (meanings_seen listed.slots ∙ ap (map (λ (e : Entry). e.meaning)) well.entries
          ∙ sym (meanings_seen t.slots));
      blocks = follows.blocks;
      tracked = follows.tracked;
    }

puts_well : (ns : List ℕ) (ms : List Meaning) (t : Tracked) → AreTracked t.slots t.blocks
    → PutsWell ns ms t (puts ns ms t)
puts_well [] ms t tracked = record { names = refl; meanings = refl; blocks = refl; tracked = tracked }
puts_well (n ∷ ns) ms t tracked =
    let one = put_well (item_at n ms) n t tracked in
    let others = puts_well ns ms (put_if (item_at n ms) n t) one.tracked in
    record {
      names = others.names ∙ one.names;
      meanings = others.meanings ∙ ap (settled ns ms) one.meanings;
      blocks = others.blocks ∙ one.blocks;
      tracked = others.tracked;
    }

entries_alike : (xs ys : List Entry) → map (λ (e : Entry). e.name) xs ≡ map (λ (e : Entry). e.name) ys
    → map (λ (e : Entry). e.meaning) xs ≡ map (λ (e : Entry). e.meaning) ys → xs ≡ ys
entries_alike [] [] names meanings = refl
entries_alike [] (y ∷ ys) names meanings = absurd (cc)
entries_alike (x ∷ xs) [] names meanings = absurd (cc)
entries_alike (x ∷ xs) (y ∷ ys) names meanings =
    let name : x.name ≡ y.name = cc in
    let meaning : x.meaning ≡ y.meaning = cc in
    let more : map (λ (e : Entry). e.name) xs ≡ map (λ (e : Entry). e.name) ys = cc in
    let further : map (λ (e : Entry). e.meaning) xs ≡ map (λ (e : Entry). e.meaning) ys = cc in
    λ i. record { name = name i; meaning = meaning i } ∷ entries_alike xs ys more further i

abbrev pub final_entry : ℕ → Bool → Slot → Entry
final_entry d ended s = record { name = s.name; meaning = meaning_after d ended s }

final_by : (d : ℕ) (ended : Bool) (o : Option Slot) → ((s : Slot) → o ≡ Some s → nat_eq s.mark d ≡ false)
    → option_map (λ (s : Slot). s.meaning) o ≡ option_map (meaning_after d ended) o
final_by d ended None unmarked = refl
final_by d ended (Some s) unmarked =
    λ i. Some (cond (sym (unmarked s refl) i) (cond ended s.ends s.start) s.meaning)

pub final_seen : (d : ℕ) (ended : Bool) (ss : List Slot) → seen (final_entry d ended) ss
    ≡ unwrap_or (ends_seen ended (seen (end_in d) ss)) (seen (start_in d) ss)
final_seen d true ss = refl
final_seen d false ss = refl

module _ (ss : List Slot) (b : Branching) (bs : List Branching) (tracked : AreTracked ss (b ∷ bs)) where
  abbrev begins : Tracked
  begins = record { slots = before b ss; blocks = bs }

  abbrev depth : ℕ
  depth = suc (length bs)

  abbrev base : List Slot
  base = take b.count ss

  abbrev finals : List Meaning
  finals = map (meaning_after depth b.ended) base

  well : PutsWell (numbers_of b.changes) finals begins (ended_in ss (b ∷ bs))
  well = puts_well (numbers_of b.changes) finals begins tracked.3

  meanings_are : meanings_of (ended_in ss (b ∷ bs)).slots ≡ finals
  meanings_are =
      well.meanings ∙ settles (numbers_of b.changes) finals (map (λ (s : Slot). s.meaning) (before b ss))
      (length-map (before b ss) (λ (s : Slot). s.meaning) ∙ undone_long b.changes base
      ∙ sym (length-map base (meaning_after depth b.ended)))
      (λ i others. item_mapped (λ (s : Slot). s.meaning) i (before b ss)
      ∙ ap (option_map (λ (s : Slot). s.meaning)) (undone_other b.changes i base others)
      ∙ final_by depth b.ended (item_at i base) (λ s is. tracked.0.2 i s is others)
      ∙ sym (item_mapped (meaning_after depth b.ended) i base))

  entries_are : map entry_in (ended_in ss (b ∷ bs)).slots ≡ map (final_entry depth b.ended) base
  entries_are =
      let after = (ended_in ss (b ∷ bs)).slots in
      entries_alike (map entry_in after) (map (final_entry depth b.ended) base)
      (sym (names_seen after) ∙ well.names ∙ undone_names b.changes base
      ∙ sym (map_again (λ (e : Entry). e.name) (final_entry depth b.ended) (λ (s : Slot). s.name) base (λ s. refl)))
      (sym (meanings_seen after) ∙ meanings_are
      ∙ sym (map_again (λ (e : Entry). e.meaning) (final_entry depth b.ended) (meaning_after depth b.ended) base
      (λ s. refl)))

  block_ends : Follows (ended_in ss (b ∷ bs))
      (end (record { entries = seen entry_in ss; blocks = blocks_in ss (b ∷ bs) }))
  block_ends = record {
    entries = ap reverse entries_are ∙ final_seen depth b.ended base;
    blocks = well.blocks;
    tracked = well.tracked;
  }

pub end_follows : (ss : List Slot) (bs : List Branching) → AreTracked ss bs
    → Follows (ended_in ss bs) (end (record { entries = seen entry_in ss; blocks = blocks_in ss bs }))
end_follows ss [] tracked = record { entries = refl; blocks = refl; tracked = tracked }
end_follows ss (b ∷ bs) tracked = block_ends ss b bs tracked
