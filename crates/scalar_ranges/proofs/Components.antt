-- A component that ends, and a condition that is excluded, by the lists of changes.
use Rattle.std.proofs.Common.{◌≡◌, ℕ, suc, ◌≤◌, Bool, true, false, cond, List, [], ◌∷◌, length, map}
use Rattle.std.proofs.Common.{reverse, take, Some, refl, sym, ap, subst, arith, ◌∙◌, nat_eq, option_map}
use Rattle.std.proofs.lemmas.List.{take_all, length-take, length-map}
use Rattle.std.proofs.lemmas.Bool.{eqb-true, eq-eqb}
use Rattle.small_laws.proofs.Comparisons.{gt-eqb, eqb_comm}
use Rattle.scalar_ranges.specs.Entries.{Meaning, Entry}
use Rattle.scalar_ranges.specs.Environments.{item_at}
use Rattle.scalar_ranges.specs.Moves.{at_number, with_meaning, is_one_of, of_both, taken, end_of}
use Rattle.scalar_ranges.specs.Moves.{next_component}
use Rattle.scalar_ranges.specs.Changes.{Slot, Branching, Tracked, modify, entry_in, start_in, end_in, before, seen}
use Rattle.scalar_ranges.specs.Changes.{ends_seen, block_in, blocks_in, known_in, numbers_of, AreListed, is_recent}
use Rattle.scalar_ranges.specs.Changes.{AreMarked, AreSettled, AreTracked, KeepsMarks, noted, with_start, with_end}
use Rattle.scalar_ranges.specs.Changes.{put_start, restarted, each, took, component_slots, component_block}
use Rattle.scalar_ranges.specs.Changes.{component_in, Follows, changed_start, with_ends, put_ends, changed_ends}
use Rattle.scalar_ranges.proofs.Numbered.{modify_long, take_modify, map_modify, map_unmodified, reverse_modify}
use Rattle.scalar_ranges.proofs.Numbered.{each_maps, map_again, items_modified}
use Rattle.scalar_ranges.proofs.Tracking.{IsNoted, IsInside, before_same}
use Rattle.scalar_ranges.proofs.Touching.{notes_well, put_tracked}
use Rattle.scalar_ranges.proofs.Following.{restarted_by, start_by, end_by, restarted_mark, restarted_not, restarted_if}
use Rattle.scalar_ranges.proofs.Following.{restarted_again, recent_restarted, inside_restarted, end_is, map_reversed}
use Rattle.scalar_ranges.proofs.Following.{item_of_map, once_marked, twice_marked, twice_behind, goes_on}

-- ---- a condition is excluded

pub start_within : (f : Meaning → Meaning) → KeepsMarks (with_start f)
start_within f = record { names = λ s. refl; marks = λ s. refl; recents = λ s. refl }

other_start : (d : ℕ) (f : Meaning → Meaning) (s : Slot) → nat_eq s.mark d ≡ true
    → start_in d (with_start f s) ≡ with_meaning f (start_in d s)
other_start d f s noted =
    (λ i. record { name = s.name; meaning = cond (noted i) (f s.start) s.meaning })
    ∙ (λ i. record { name = s.name; meaning = f (cond (sym noted i) s.start s.meaning) })

start_blocks : (f : Meaning → Meaning) (n : ℕ) (ss : List Slot) (bs : List Branching) → IsNoted n ss bs
    → AreTracked ss bs → blocks_in (modify (with_start f) n ss) bs ≡ changed_start f n (blocks_in ss bs)
start_blocks f n ss [] noted tracked = refl
start_blocks f n ss (b ∷ bs) noted tracked =
    let d = suc (length bs) in
    let at = take_modify (with_start f) b.count n ss in
    let starts = ap (map (start_in d)) at
    ∙ map_modify (start_in d) (with_start f) (with_meaning f) n (take b.count ss)
    (λ s is. other_start d f s (noted s is).0) in
    let start = ap reverse starts ∙ reverse_modify (with_meaning f) n (map (start_in d) (take b.count ss)) in
    let ends = ap (map (end_in d)) at
    ∙ map_unmodified (end_in d) (with_start f) n (take b.count ss) (λ s is. refl) in
    let behind = before_same (with_start f) n ss b bs (λ s. refl) (λ s is. (noted s is).0) tracked.0 in
    λ i. record { start = start i; ends = ends_seen b.ended (reverse (ends i)) } ∷ blocks_in (behind i) bs

pub start_follows : (n : ℕ) (f : Meaning → Meaning) (t : Tracked) → AreTracked t.slots t.blocks
    → Follows (put_start n f t)
    (record { entries = (known_in t).entries; blocks = changed_start f n (known_in t).blocks })
start_follows n f t tracked =
    let listed = noted n t.slots t.blocks in
    let well = notes_well n t.slots t.blocks tracked in
    record {
      entries = ap reverse (map_unmodified entry_in (with_start f) n listed.slots (λ s is. refl) ∙ well.entries);
      blocks = start_blocks f n listed.slots listed.blocks well.noted well.tracked
          ∙ ap (changed_start f n) well.blocks;
      tracked = put_tracked (with_start f) n t (start_within f) tracked;
    }

-- ---- the ends so far change

pub ends_within : (f : Meaning → Meaning) → KeepsMarks (with_ends f)
ends_within f = record { names = λ s. refl; marks = λ s. refl; recents = λ s. refl }

other_end : (d : ℕ) (f : Meaning → Meaning) (s : Slot) → nat_eq s.mark d ≡ true
    → end_in d (with_ends f s) ≡ with_meaning f (end_in d s)
other_end d f s noted =
    (λ i. record { name = s.name; meaning = cond (noted i) (f s.ends) s.meaning })
    ∙ (λ i. record { name = s.name; meaning = f (cond (sym noted i) s.ends s.meaning) })

seen_ends : (ended : Bool) (f : Meaning → Meaning) (n : ℕ) (es : List Entry)
    → ends_seen ended (at_number (with_meaning f) n es)
    ≡ option_map (λ ds. at_number (with_meaning f) n ds) (ends_seen ended es)
seen_ends true f n es = refl
seen_ends false f n es = refl

end_blocks : (f : Meaning → Meaning) (n : ℕ) (ss : List Slot) (bs : List Branching) → IsNoted n ss bs
    → AreTracked ss bs → blocks_in (modify (with_ends f) n ss) bs ≡ changed_ends f n (blocks_in ss bs)
end_blocks f n ss [] noted tracked = refl
end_blocks f n ss (b ∷ bs) noted tracked =
    let d = suc (length bs) in
    let at = take_modify (with_ends f) b.count n ss in
    let start = ap (map (start_in d)) at
    ∙ map_unmodified (start_in d) (with_ends f) n (take b.count ss) (λ s is. refl) in
    let all = ap (map (end_in d)) at
    ∙ map_modify (end_in d) (with_ends f) (with_meaning f) n (take b.count ss)
    (λ s is. other_end d f s (noted s is).0) in
    let ends = ap (ends_seen b.ended)
    (ap reverse all ∙ reverse_modify (with_meaning f) n (map (end_in d) (take b.count ss)))
    ∙ seen_ends b.ended f n (seen (end_in d) (take b.count ss)) in
    let behind = before_same (with_ends f) n ss b bs (λ s. refl) (λ s is. (noted s is).0) tracked.0 in
    λ i. record { start = reverse (start i); ends = ends i } ∷ blocks_in (behind i) bs

pub ends_follow : (n : ℕ) (f : Meaning → Meaning) (t : Tracked) → AreTracked t.slots t.blocks
    → Follows (put_ends n f t)
    (record { entries = (known_in t).entries; blocks = changed_ends f n (known_in t).blocks })
ends_follow n f t tracked =
    let listed = noted n t.slots t.blocks in
    let well = notes_well n t.slots t.blocks tracked in
    record {
      entries = ap reverse (map_unmodified entry_in (with_ends f) n listed.slots (λ s is. refl) ∙ well.entries);
      blocks = end_blocks f n listed.slots listed.blocks well.noted well.tracked
          ∙ ap (changed_ends f n) well.blocks;
      tracked = put_tracked (with_ends f) n t (ends_within f) tracked;
    }

-- ---- a component ends

abbrev took_by : Bool → Slot → Slot
took_by t s = cond t (with_end s.meaning s) s

took_name : (t : Bool) (s : Slot) → (took_by t s).name ≡ s.name
took_name true s = refl
took_name false s = refl

took_mark : (t : Bool) (s : Slot) → (took_by t s).mark ≡ s.mark
took_mark true s = refl
took_mark false s = refl

inside_took : (d : ℕ) → IsInside d (took d)
inside_took d = record {
  names = λ s. took_name (nat_eq s.mark d) s;
  marks = λ s. took_mark (nat_eq s.mark d) s;
  others = λ s test. ap (λ t. took_by t s) test;
}

took_entry : (t : Bool) (s : Slot) → entry_in (took_by t s) ≡ entry_in s
took_entry true s = refl
took_entry false s = refl

took_start : (t : Bool) (s : Slot) → start_by t (took_by t s) ≡ start_by t s
took_start true s = refl
took_start false s = refl

took_end : (t : Bool) (s : Slot) → end_by t (took_by t s) ≡ entry_in s
took_end true s = refl
took_end false s = refl

start_taken : (d : ℕ) (s : Slot) → start_in d (took d s) ≡ start_in d s
start_taken d s =
    ap (λ m. start_by (nat_eq m d) (took d s)) (took_mark (nat_eq s.mark d) s) ∙ took_start (nat_eq s.mark d) s

end_taken : (d : ℕ) (s : Slot) → end_in d (took d s) ≡ entry_in s
end_taken d s =
    ap (λ m. end_by (nat_eq m d) (took d s)) (took_mark (nat_eq s.mark d) s) ∙ took_end (nat_eq s.mark d) s

each_unseen : {A B : Type 0} (g : A → B) (f : A → A) (ns : List ℕ) (xs : List A) → ((x : A) → g (f x) ≡ g x)
    → map g (each f ns xs) ≡ map g xs
each_unseen g f [] xs same = refl
each_unseen g f (n ∷ ns) xs same =
    each_unseen g f ns (modify f n xs) same ∙ map_unmodified g f n xs (λ x is. same x)

pub each_long : {A : Type 0} (f : A → A) (ns : List ℕ) (xs : List A) → length (each f ns xs) ≡ length xs
each_long f [] xs = refl
each_long f (n ∷ ns) xs = each_long f ns (modify f n xs) ∙ modify_long f n xs

-- of the ends, with the innermost entry first
higher_by : (t : Bool) (ns : List ℕ) (k : ℕ) → t ≡ false → cond t true (is_one_of ns k) ≡ is_one_of ns k
higher_by true ns k h = absurd (cc)
higher_by false ns k h = refl

-- a number that no item has
taken_high : {A : Type 0} (ns : List ℕ) (n : ℕ) (xs ys : List A) → length xs ≤ n
    → taken ns xs ys ≡ taken (n ∷ ns) xs ys
taken_high ns n [] ys h = refl
taken_high ns n (x ∷ xs) [] h = refl
taken_high ns n (x ∷ xs) (y ∷ ys) h =
    λ i. of_both (sym (higher_by (nat_eq n (length xs)) ns (length xs) (gt-eqb n (length xs) (omega arith))) i) x y
    ∷ taken_high ns n xs ys (omega arith) i

long_by : {A : Type 0} (t : Bool) (f : A → A) (n : ℕ) (x : A) (xs : List A) → length (at_number f n xs) ≡ length xs
    → length (cond t (f x ∷ xs) (x ∷ at_number f n xs)) ≡ suc (length xs)
long_by true f n x xs h = refl
long_by false f n x xs h = ap suc h

changed_long : {A : Type 0} (f : A → A) (n : ℕ) (xs : List A) → length (at_number f n xs) ≡ length xs
changed_long f n [] = refl
changed_long f n (x ∷ xs) = long_by (nat_eq (length xs) n) f n x xs (changed_long f n xs)

both_same : {A : Type 0} (t : Bool) (x : A) → of_both t x x ≡ x
both_same true x = refl
both_same false x = refl

module _ (d : ℕ) (ns : List ℕ) (n : ℕ) where
  abbrev ends : List Slot → List Entry
  ends ss = map (end_in d) ss

  abbrev entries : List Slot → List Entry
  entries ss = map entry_in ss

  ends_by : (t : Bool) (s : Slot) (ss : List Slot) → nat_eq (length ss) n ≡ t
      → taken ns (ends (at_number (took d) n ss)) (entries ss) ≡ taken (n ∷ ns) (ends ss) (entries ss)
      → taken ns (ends (cond t (took d s ∷ ss) (s ∷ at_number (took d) n ss))) (entries (s ∷ ss))
      ≡ taken (n ∷ ns) (ends (s ∷ ss)) (entries (s ∷ ss))
  ends_by true s ss test further =
      let long = length-map ss (end_in d) in
      let is = eqb-true (length ss) n test in
      let here = eq-eqb n (length (ends ss)) (omega arith) in
      let low : length (ends ss) ≤ n = omega arith in
      (λ i. of_both (is_one_of ns (length (ends ss))) (end_taken d s i) (entry_in s) ∷ taken ns (ends ss) (entries ss))
      ∙ (λ i. both_same (is_one_of ns (length (ends ss))) (entry_in s) i ∷ taken_high ns n (ends ss) (entries ss) low i)
      ∙ (λ i. of_both (cond (sym here i) true (is_one_of ns (length (ends ss)))) (end_in d s) (entry_in s)
      ∷ taken (n ∷ ns) (ends ss) (entries ss))
  ends_by false s ss test further =
      let long = length-map ss (end_in d) in
      let changed = length-map (at_number (took d) n ss) (end_in d) in
      let same = changed_long (took d) n ss in
      let alike : length (ends (at_number (took d) n ss)) ≡ length (ends ss) = omega arith in
      let apart = ap (nat_eq n) long ∙ eqb_comm n (length ss) ∙ test in
      (λ i. of_both (is_one_of ns (alike i)) (end_in d s) (entry_in s) ∷ further i)
      ∙ (λ i. of_both (sym (higher_by (nat_eq n (length (ends ss))) ns (length (ends ss)) apart) i) (end_in d s)
      (entry_in s) ∷ taken (n ∷ ns) (ends ss) (entries ss))

  ends_one : (ss : List Slot) → taken ns (ends (at_number (took d) n ss)) (entries ss)
      ≡ taken (n ∷ ns) (ends ss) (entries ss)
  ends_one [] = refl
  ends_one (s ∷ ss) = ends_by (nat_eq (length ss) n) s ss refl (ends_one ss)

taken_none : {A : Type 0} (xs ys : List A) → xs ≡ taken [] xs ys
taken_none [] ys = refl
taken_none (x ∷ xs) [] = refl
taken_none (x ∷ xs) (y ∷ ys) = ap (λ ks. x ∷ ks) (taken_none xs ys)

took_ends : (d : ℕ) (ns : List ℕ) (ss : List Slot)
    → seen (end_in d) (each (took d) ns ss) ≡ taken ns (seen (end_in d) ss) (seen entry_in ss)
took_ends d [] ss = taken_none (seen (end_in d) ss) (seen entry_in ss)
took_ends d (n ∷ ns) ss =
    let ks = modify (took d) n ss in
    took_ends d ns ks
    ∙ (λ i. taken ns (map_reversed (end_in d) ks i) (reverse (map_unmodified entry_in (took d) n ss
    (λ s is. took_entry (nat_eq s.mark d) s) i)))
    ∙ (λ i. taken ns (map (end_in d) (reverse_modify (took d) n ss i)) (map_reversed entry_in ss i))
    ∙ ends_one d ns n (reverse ss)
    ∙ (λ i. taken (n ∷ ns) (sym (map_reversed (end_in d) ss) i) (sym (map_reversed entry_in ss) i))

restarted_entry : (t : Bool) (s : Slot) → entry_in (restarted_by t s) ≡ start_by t s
restarted_entry true s = refl
restarted_entry false s = refl

restarted_start : (t : Bool) (s : Slot) → start_by t (restarted_by t s) ≡ start_by t s
restarted_start true s = refl
restarted_start false s = refl

restarted_end : (t : Bool) (s : Slot) → end_by t (restarted_by t s) ≡ end_by t s
restarted_end true s = refl
restarted_end false s = refl

start_again : (d : ℕ) (s : Slot) → start_in d (restarted d s) ≡ start_in d s
start_again d s =
    ap (λ m. start_by (nat_eq m d) (restarted d s)) (restarted_mark (nat_eq s.mark d) s)
    ∙ restarted_start (nat_eq s.mark d) s

end_again : (d : ℕ) (s : Slot) → end_in d (restarted d s) ≡ end_in d s
end_again d s =
    ap (λ m. end_by (nat_eq m d) (restarted d s)) (restarted_mark (nat_eq s.mark d) s)
    ∙ restarted_end (nat_eq s.mark d) s

-- what the branch did not change is restarted also where its ends are taken
restarted_took : (d : ℕ) (s : Slot) → restarted d s ≡ s → restarted d (took d s) ≡ took d s
restarted_took d s same =
    ap (λ m. restarted_by (nat_eq m d) (took d s)) (took_mark (nat_eq s.mark d) s)
    ∙ restarted_if (nat_eq s.mark d) s.meaning s same

tooks_restarted : (d : ℕ) (b : Branching) (ns : List ℕ) (ss : List Slot)
    → ((i : ℕ) (s : Slot) → item_at i ss ≡ Some s → is_one_of b.recent i ≡ false → restarted d s ≡ s)
    → (i : ℕ) (s : Slot) → item_at i (each (took d) ns ss) ≡ Some s → is_one_of b.recent i ≡ false
    → restarted d s ≡ s
tooks_restarted d b [] ss same i s is others = same i s is others
tooks_restarted d b (n ∷ ns) ss same i s is others =
    tooks_restarted d b ns (modify (took d) n ss)
    (items_modified (λ i s. is_one_of b.recent i ≡ false → restarted d s ≡ s) (took d) n ss
    (λ k s apart is others. same k s is others)
    (λ s is others. restarted_took d s (same n s is others))) i s is others

component_ends : (ended : Bool) (ns : List ℕ) (ds es : List Entry)
    → ends_seen ended (taken ns ds es) ≡ option_map (λ k. taken ns k es) (ends_seen ended ds)
component_ends true ns ds es = refl
component_ends false ns ds es = refl

module _ (ns : List ℕ) (ss : List Slot) (b : Branching) (bs : List Branching) (tracked : AreTracked ss (b ∷ bs)) where
  abbrev depth : ℕ
  depth = suc (length bs)

  abbrev base : List Slot
  base = take b.count ss

  abbrev tooks : List Slot
  tooks = each (took depth) ns base

  abbrev slots : List Slot
  slots = component_slots ns depth b base

  tooks_marked : AreMarked tooks b bs
  tooks_marked =
      once_marked (took depth) (restarted depth) ns (numbers_of b.changes) ss b bs (inside_took depth)
      (inside_restarted depth) tracked.0

  tooks_taken : take b.count tooks ≡ tooks
  tooks_taken =
      let long = each_long (took depth) ns base in
      let cut = length-take b.count ss in
      take_all b.count tooks (omega arith)

  slots_are : slots ≡ map (restarted depth) tooks
  slots_are =
      each_maps (restarted depth) b.recent tooks (restarted_again depth)
      (tooks_restarted depth b ns base (λ i s is others. (tracked.1 i s is others).1))

  by_list : slots ≡ each (restarted depth) (numbers_of b.changes) tooks
  by_list =
      let listed = subst (AreListed depth (numbers_of b.changes)) tooks_taken tooks_marked.2 in
      slots_are ∙ sym (each_maps (restarted depth) (numbers_of b.changes) tooks (restarted_again depth)
      (λ i s is others. restarted_not depth s (listed i s is others)))

  slots_marked : AreMarked slots b bs
  slots_marked = subst (λ ks. AreMarked ks b bs) (sym by_list)
      (twice_marked (took depth) (restarted depth) ns (numbers_of b.changes) ss b bs (inside_took depth)
      (inside_restarted depth) tracked.0)

  behind : before b slots ≡ before b ss
  behind = ap (before b) by_list
      ∙ twice_behind (took depth) (restarted depth) ns (numbers_of b.changes) ss b bs (inside_took depth)
      (inside_restarted depth) tracked.0

  settled : AreSettled depth (component_block b) slots
  settled = subst (AreSettled depth (component_block b)) (sym slots_are)
      (λ i s is others.
      let x = item_of_map (restarted depth) i tooks s is in (
        ap (is_recent depth) (sym x.2) ∙ recent_restarted depth x.0,
        subst (λ (k : Slot). restarted depth k ≡ k) x.2 (restarted_again depth x.0),
        λ even apart. absurd (cc (even)),
      ))

  slots_taken : take b.count slots ≡ slots
  slots_taken =
      let long = ap length slots_are ∙ length-map tooks (restarted depth) ∙ each_long (took depth) ns base in
      let cut = length-take b.count ss in
      take_all b.count slots (omega arith)

  starts_are : (g : Slot → Entry) → ((s : Slot) → g (restarted depth s) ≡ start_in depth s)
      → map g slots ≡ map (start_in depth) base
  starts_are g same =
      ap (map g) slots_are ∙ map_again g (restarted depth) (start_in depth) tooks same
      ∙ each_unseen (start_in depth) (took depth) ns base (start_taken depth)

  ends_are : seen (end_in depth) slots
      ≡ taken ns (seen (end_in depth) base) (end_of (block_in depth b ss) (seen entry_in ss))
  ends_are =
      ap (seen (end_in depth)) slots_are
      ∙ ap reverse (map_again (end_in depth) (restarted depth) (end_in depth) tooks (end_again depth))
      ∙ took_ends depth ns base
      ∙ ap (taken ns (seen (end_in depth) base)) (sym (end_is depth b ss tracked.0.0))

  component : Follows (component_in ns ss (b ∷ bs))
      (next_component ns (record { entries = seen entry_in ss; blocks = blocks_in ss (b ∷ bs) }))
  component =
      let starts = ap reverse (starts_are (start_in depth) (start_again depth)) in
      let ends = ap (ends_seen b.ended) ends_are ∙ component_ends b.ended ns (seen (end_in depth) base)
      (end_of (block_in depth b ss) (seen entry_in ss)) in
      record {
        entries = ap reverse (starts_are entry_in (λ s. restarted_entry (nat_eq s.mark depth) s));
        blocks = (λ i. record {
          start = seen (start_in depth) (slots_taken i);
          ends = ends_seen b.ended (seen (end_in depth) (slots_taken i));
        } ∷ blocks_in (behind i) bs)
            ∙ (λ i. record { start = starts i; ends = ends i } ∷ blocks_in (before b ss) bs);
        tracked = goes_on slots ss b (component_block b) bs refl refl slots_taken slots_marked settled behind tracked;
      }

pub component_follows : (ns : List ℕ) (ss : List Slot) (bs : List Branching) → AreTracked ss bs
    → Follows (component_in ns ss bs)
    (next_component ns (record { entries = seen entry_in ss; blocks = blocks_in ss bs }))
component_follows ns ss [] tracked = record { entries = refl; blocks = refl; tracked = tracked }
component_follows ns ss (b ∷ bs) tracked = component ns ss b bs tracked
