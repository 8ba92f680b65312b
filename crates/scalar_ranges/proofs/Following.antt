-- The moves of what the program has of entries and blocks are the moves of what is known.
use Rattle.std.proofs.Common.{◌≡◌, ℕ, zero, suc, ◌+◌, ◌≤◌, Bool, true, false, cond, List, [], ◌∷◌, ◌++◌, length, map}
use Rattle.std.proofs.Common.{reverse, take, Some, refl, sym, ap, subst, arith, ◌∙◌, nat_eq}
use Rattle.std.proofs.lemmas.Bool.Decides.{nat_tests}
use Rattle.std.proofs.lemmas.List.{take_all, take-take, take-map, length-take, length-take-le, length-map, map-append}
use Rattle.std.proofs.lemmas.List.{length-reverse}
use Rattle.scalar_ranges.specs.Entries.{Meaning, Entry}
use Rattle.scalar_ranges.specs.Environments.{item_at}
use Rattle.scalar_ranges.specs.Moves.{outermost, at_number, with_meaning, is_one_of, hull_meaning, hulls}
use Rattle.scalar_ranges.specs.Moves.{ends_with, end_of, next}
use Rattle.scalar_ranges.specs.Changes.{Slot, Branching, Tracked, entry_in, start_in, end_in, undone}
use Rattle.scalar_ranges.specs.Changes.{before, seen, ends_seen, begin_with, known_in, block_in, blocks_in, numbers_of}
use Rattle.scalar_ranges.specs.Changes.{AreListed, AreUpTo, without, is_marked, is_recent, AreMarked, IsSettled}
use Rattle.scalar_ranges.specs.Changes.{AreSettled, AreTracked, noted, with_new, with_end, with_restart, put}
use Rattle.scalar_ranges.specs.Changes.{begun_block}
use Rattle.scalar_ranges.specs.Changes.{begun, joined, restarted, each, joined_by, turned_slots, turned_block, next_in}
use Rattle.scalar_ranges.specs.Changes.{Follows}
use Rattle.scalar_ranges.proofs.Hulls.{meaning_again, meaning_itself}
use Rattle.scalar_ranges.proofs.Counting.{all_without}
use Rattle.scalar_ranges.proofs.Numbered.{reverse_take, item_taken, each_both, in_either, each_maps, map_again}
use Rattle.scalar_ranges.proofs.Numbered.{reverse_cons}
use Rattle.scalar_ranges.proofs.Tracking.{IsInside, new_blocks, new_within, first_not, second_not, before_each}
use Rattle.scalar_ranges.proofs.Tracking.{marked_each}
use Rattle.scalar_ranges.proofs.Touching.{notes_well, put_tracked, put_entries}

-- ---- an entry means something else

pub put_follows : (n : ℕ) (m : Meaning) (t : Tracked) → AreTracked t.slots t.blocks → Follows (put n m t) (record {
  entries = at_number (with_meaning (λ k. m)) n (seen entry_in t.slots);
  blocks = blocks_in t.slots t.blocks;
})
put_follows n m t tracked =
    let listed = noted n t.slots t.blocks in
    let well = notes_well n t.slots t.blocks tracked in
    record {
      entries = put_entries (with_new m) m n t (λ s. refl) tracked;
      blocks = new_blocks m n listed.slots listed.blocks well.noted well.tracked ∙ well.blocks;
      tracked = put_tracked (with_new m) n t (new_within m) tracked;
    }

-- ---- a slot where a branch ends

-- what a branch's end makes of a slot, by whether it is marked
abbrev joined_if : Bool → Bool → Slot → Slot
joined_if t ended s = cond t (with_end (cond ended (hull_meaning s.ends s.meaning) s.meaning) s) s

ends_twice : (ended : Bool) (m n : Meaning)
    → cond ended (hull_meaning (cond ended (hull_meaning m n) n) n) n ≡ cond ended (hull_meaning m n) n
ends_twice true m n = meaning_again m n
ends_twice false m n = refl

joined_twice : (t ended : Bool) (s : Slot) → joined_if t ended (joined_if t ended s) ≡ joined_if t ended s
joined_twice false ended s = refl
joined_twice true ended s = ap (λ m. with_end m s) (ends_twice ended s.ends s.meaning)

joined_mark : (t ended : Bool) (s : Slot) → (joined_if t ended s).mark ≡ s.mark
joined_mark true ended s = refl
joined_mark false ended s = refl

joined_again : (d : ℕ) (ended : Bool) (s : Slot) → joined d ended (joined d ended s) ≡ joined d ended s
joined_again d ended s =
    ap (λ m. joined_if (nat_eq m d) ended (joined d ended s)) (joined_mark (nat_eq s.mark d) ended s)
    ∙ joined_twice (nat_eq s.mark d) ended s

joined_not : (d : ℕ) (ended : Bool) (s : Slot) → nat_eq s.mark d ≡ false → joined d ended s ≡ s
joined_not d ended s test = ap (λ t. joined_if t ended s) test

abbrev pub restarted_by : Bool → Slot → Slot
restarted_by t s = cond t (with_restart s) s

joined_name : (t ended : Bool) (s : Slot) → (joined_if t ended s).name ≡ s.name
joined_name true ended s = refl
joined_name false ended s = refl

restarted_name : (t : Bool) (s : Slot) → (restarted_by t s).name ≡ s.name
restarted_name true s = refl
restarted_name false s = refl

pub restarted_mark : (t : Bool) (s : Slot) → (restarted_by t s).mark ≡ s.mark
restarted_mark true s = refl
restarted_mark false s = refl

recent_by : (t : Bool) (s : Slot) → cond t (restarted_by t s).recent false ≡ false
recent_by true s = refl
recent_by false s = refl

pub recent_restarted : (d : ℕ) (s : Slot) → is_recent d (restarted d s) ≡ false
recent_restarted d s =
    ap (λ m. cond (nat_eq m d) (restarted d s).recent false) (restarted_mark (nat_eq s.mark d) s)
    ∙ recent_by (nat_eq s.mark d) s

restarted_twice : (t : Bool) (s : Slot) → restarted_by t (restarted_by t s) ≡ restarted_by t s
restarted_twice true s = refl
restarted_twice false s = refl

pub restarted_again : (d : ℕ) (s : Slot) → restarted d (restarted d s) ≡ restarted d s
restarted_again d s =
    ap (λ m. restarted_by (nat_eq m d) (restarted d s)) (restarted_mark (nat_eq s.mark d) s)
    ∙ restarted_twice (nat_eq s.mark d) s

pub restarted_not : (d : ℕ) (s : Slot) → nat_eq s.mark d ≡ false → restarted d s ≡ s
restarted_not d s test = ap (λ t. restarted_by t s) test

-- ---- a block begins

up_to : (ss : List Slot) (bs : List Branching) → AreTracked ss bs → AreUpTo (length bs) ss
up_to ss [] tracked = tracked
up_to ss (b ∷ bs) tracked = tracked.0.1

pub map_alike : {A B : Type 0} (g h : A → B) (xs : List A) → ((i : ℕ) (x : A) → item_at i xs ≡ Some x → g x ≡ h x)
    → map g xs ≡ map h xs
map_alike g h [] same = refl
map_alike g h (x ∷ xs) same = λ i. same 0 x refl i ∷ map_alike g h xs (λ k y is. same (suc k) y is) i

pub not_yet : (a d : ℕ) → a ≤ d → nat_eq a (suc d) ≡ false
not_yet a d h = grind (arith, nat_tests)

whole : (ss : List Slot) → take (length ss) ss ≡ ss
whole ss = take_all (length ss) ss (omega arith)

-- an entry that the block does not have in its list
not_marked : (d i : ℕ) (b : Branching) (s : Slot) → nat_eq s.mark d ≡ false → IsSettled d b i s
not_marked d i b s test = (
  ap (λ t. cond t s.recent false) test,
  restarted_not d s test,
  λ even apart. joined_not d b.ended s test,
)

pub begun_follows : (ended : Bool) (t : Tracked) → AreTracked t.slots t.blocks
    → Follows (begun ended t) (begin_with ended (known_in t))
begun_follows ended t tracked =
    let d = length t.blocks in
    let all = whole t.slots in
    let starts = ap (map (start_in (suc d))) all ∙ map_alike (start_in (suc d)) entry_in t.slots
    (λ i s is. λ j. record {
      name = s.name;
      meaning = cond (not_yet s.mark d (up_to t.slots t.blocks tracked i s is) j) s.start s.meaning;
    }) in
    let ends = ap (map (end_in (suc d))) all ∙ map_alike (end_in (suc d)) entry_in t.slots
    (λ i s is. λ j. record {
      name = s.name;
      meaning = cond (not_yet s.mark d (up_to t.slots t.blocks tracked i s is) j) s.ends s.meaning;
    }) in
    let few = all_without (is_marked (suc d)) (take (length t.slots) t.slots) in
    let none = all_without (is_recent (suc d)) (take (length t.slots) t.slots) in
    let long = ap length all in
    let low : (i : ℕ) (s : Slot) → item_at i (take (length t.slots) t.slots) ≡ Some s → nat_eq s.mark (suc d) ≡ false =
    λ i s is. not_yet s.mark d (up_to t.slots t.blocks tracked i s (item_taken (length t.slots) i t.slots s is)) in
    record {
      entries = refl;
      blocks = λ i. record { start = reverse (starts i); ends = ends_seen ended (reverse (ends i)) }
          ∷ blocks_in (all i) t.blocks;
      tracked = (
        (
          omega arith,
          (λ i s is. let less = up_to t.slots t.blocks tracked i s is in omega arith),
          (λ i s is others. low i s is),
          omega arith,
        ),
        (λ i s is others. not_marked (suc d) i (begun_block ended t) s (low i s is)),
        omega arith,
        subst (λ k. AreTracked k t.blocks) (sym all) tracked,
      );
    }

-- ---- a branch ends

-- an item of a list that was made item by item
pub item_of_map : {A B : Type 0} (f : A → B) (i : ℕ) (xs : List A) (y : B) → item_at i (map f xs) ≡ Some y
    → (x : A) × (item_at i xs ≡ Some x) × (f x ≡ y)
item_of_map f i [] y is = absurd (cc)
item_of_map f zero (x ∷ xs) y is = (x, refl, cc)
item_of_map f (suc i) (x ∷ xs) y is = item_of_map f i xs y is

listed_mapped : (d : ℕ) (ns : List ℕ) (f : Slot → Slot) (ss : List Slot) → ((s : Slot) → (f s).mark ≡ s.mark)
    → AreListed d ns ss → AreListed d ns (map f ss)
listed_mapped d ns f ss marks listed i s is others =
    let x = item_of_map f i ss s is in
    subst (λ (k : Slot). nat_eq k.mark d ≡ false) x.2
    (ap (λ m. nat_eq m d) (marks x.0) ∙ listed i x.0 x.1 others)

-- what loops over the whole list make of the slots
listed_turn : (d : ℕ) (b : Branching) (ss : List Slot) → AreListed d (numbers_of b.changes) ss
    → each (restarted d) (numbers_of b.changes) (each (joined d b.ended) (numbers_of b.changes) ss)
    ≡ map (restarted d) (map (joined d b.ended) ss)
listed_turn d b ss listed =
    let ns = numbers_of b.changes in
    ap (each (restarted d) ns)
    (each_maps (joined d b.ended) ns ss (joined_again d b.ended)
    (λ i s is others. joined_not d b.ended s (listed i s is others)))
    ∙ each_maps (restarted d) ns (map (joined d b.ended) ss) (restarted_again d)
    (λ i s is others. restarted_not d s (listed_mapped d ns (joined d b.ended) ss
    (λ k. joined_mark (nat_eq k.mark d) b.ended k) listed i s is others))

-- a slot after a branch, by whether it is marked
abbrev after_by : Bool → Bool → Slot → Slot
after_by t ended s = restarted_by t (joined_if t ended s)

after_mark : (t ended : Bool) (s : Slot) → (after_by t ended s).mark ≡ s.mark
after_mark true ended s = refl
after_mark false ended s = refl

after_is : (d : ℕ) (ended : Bool) (s : Slot) → restarted d (joined d ended s) ≡ after_by (nat_eq s.mark d) ended s
after_is d ended s =
    ap (λ m. restarted_by (nat_eq m d) (joined d ended s)) (joined_mark (nat_eq s.mark d) ended s)

-- other ends of a slot that the branch did not change
pub restarted_if : (t : Bool) (m : Meaning) (s : Slot) → restarted_by t s ≡ s
    → restarted_by t (cond t (with_end m s) s) ≡ cond t (with_end m s) s
restarted_if true m s same = ap (with_end m) same
restarted_if false m s same = refl

restarted_joined : (d : ℕ) (ended : Bool) (s : Slot) → restarted d s ≡ s
    → restarted d (joined d ended s) ≡ joined d ended s
restarted_joined d ended s same =
    after_is d ended s
    ∙ restarted_if (nat_eq s.mark d) (cond ended (hull_meaning s.ends s.meaning) s.meaning) s same

end_again : (ended : Bool) (m n : Meaning)
    → hull_meaning (cond ended (hull_meaning m n) n) n ≡ cond ended (hull_meaning m n) n
end_again true m n = meaning_again m n
end_again false m n = meaning_itself n

joined_on : (t ended : Bool) (s : Slot) → joined_if t true (joined_if t ended s) ≡ joined_if t ended s
joined_on true ended s = ap (λ m. with_end m s) (end_again ended s.ends s.meaning)
joined_on false ended s = refl

-- the end of a further branch that does not change it
joined_further : (d : ℕ) (ended : Bool) (s : Slot) → joined d true (joined d ended s) ≡ joined d ended s
joined_further d ended s =
    ap (λ m. joined_if (nat_eq m d) true (joined d ended s)) (joined_mark (nat_eq s.mark d) ended s)
    ∙ joined_on (nat_eq s.mark d) ended s

-- what the loops over the branches' lists make of the slots
module _ (d : ℕ) (b : Branching) (ss : List Slot) (listed : AreListed d (numbers_of b.changes) ss)
    (settled : AreSettled d b ss) where
  joins_are : (t : Bool) → b.even ≡ t → joined_by t d b ss ≡ map (joined d b.ended) ss
  joins_are true even =
      each_both (joined d b.ended) b.earlier b.recent ss
      ∙ each_maps (joined d b.ended) (b.earlier ++ b.recent) ss (joined_again d b.ended)
      (λ i s is others.
      let apart = sym (in_either b.earlier b.recent i) ∙ others in
      (settled i s is (second_not (is_one_of b.earlier i) (is_one_of b.recent i) apart)).2 even
      (first_not (is_one_of b.earlier i) (is_one_of b.recent i) apart))
  joins_are false even =
      each_maps (joined d b.ended) (numbers_of b.changes) ss (joined_again d b.ended)
      (λ i s is others. joined_not d b.ended s (listed i s is others))

  turn_is : turned_slots d b ss ≡ map (restarted d) (map (joined d b.ended) ss)
  turn_is =
      ap (each (restarted d) b.recent) (joins_are b.even refl)
      ∙ each_maps (restarted d) b.recent (map (joined d b.ended) ss) (restarted_again d)
      (λ i s is others.
      let x = item_of_map (joined d b.ended) i ss s is in
      subst (λ (k : Slot). restarted d k ≡ k) x.2
      (restarted_joined d b.ended x.0 (settled i x.0 x.1 others).1))

  turned_settled : AreSettled d (turned_block b) (map (restarted d) (map (joined d b.ended) ss))
  turned_settled i s is others =
      let y = item_of_map (restarted d) i (map (joined d b.ended) ss) s is in
      let x = item_of_map (joined d b.ended) i ss y.0 y.1 in (
        ap (is_recent d) (sym y.2) ∙ recent_restarted d y.0,
        subst (λ (k : Slot). restarted d k ≡ k) y.2 (restarted_again d y.0),
        λ even apart.
            let same = restarted_joined d b.ended x.0 (settled i x.0 x.1 apart).1 in
            subst (λ (k : Slot). joined d true k ≡ k) (sym same ∙ ap (restarted d) x.2 ∙ y.2)
            (joined_further d b.ended x.0),
      )

abbrev pub start_by : Bool → Slot → Entry
start_by t s = record { name = s.name; meaning = cond t s.start s.meaning }

abbrev pub end_by : Bool → Slot → Entry
end_by t s = record { name = s.name; meaning = cond t s.ends s.meaning }

entry_after : (t ended : Bool) (s : Slot) → entry_in (after_by t ended s) ≡ start_by t s
entry_after true ended s = refl
entry_after false ended s = refl

start_after : (t ended : Bool) (s : Slot) → start_by t (after_by t ended s) ≡ start_by t s
start_after true ended s = refl
start_after false ended s = refl

abbrev hull_entry : Entry → Entry → Entry
hull_entry a b = record { name = a.name; meaning = hull_meaning a.meaning b.meaning }

first_end : (t : Bool) (s : Slot) → end_by t (after_by t false s) ≡ entry_in s
first_end true s = refl
first_end false s = refl

further_end : (t : Bool) (s : Slot) → end_by t (after_by t true s) ≡ hull_entry (end_by t s) (entry_in s)
further_end true s = refl
further_end false s = ap (λ m. record { name = s.name; meaning = m }) (sym (meaning_itself s.meaning))

hulls_mapped : (f g : Slot → Entry) (ss : List Slot)
    → hulls (map f ss) (map g ss) ≡ map (λ s. hull_entry (f s) (g s)) ss
hulls_mapped f g [] = refl
hulls_mapped f g (s ∷ ss) = ap (λ es. hull_entry (f s) (g s) ∷ es) (hulls_mapped f g ss)

pub map_reversed : {A B : Type 0} (f : A → B) (xs : List A) → reverse (map f xs) ≡ map f (reverse xs)
map_reversed f [] = refl
map_reversed f (x ∷ xs) =
    reverse_cons (f x) (map f xs) ∙ ap (λ ys. ys ++ f x ∷ []) (map_reversed f xs)
    ∙ sym (map-append f (reverse xs) (x ∷ [])) ∙ ap (map f) (sym (reverse_cons x xs))

hulls_seen : (f g : Slot → Entry) (ss : List Slot)
    → hulls (seen f ss) (seen g ss) ≡ seen (λ s. hull_entry (f s) (g s)) ss
hulls_seen f g ss =
    (λ i. hulls (map_reversed f ss i) (map_reversed g ss i)) ∙ hulls_mapped f g (reverse ss)
    ∙ sym (map_reversed (λ s. hull_entry (f s) (g s)) ss)

-- what an end has of the entries that a block began with
pub end_is : (d : ℕ) (b : Branching) (ss : List Slot) → b.count ≤ length ss
    → end_of (block_in d b ss) (seen entry_in ss) ≡ seen entry_in (take b.count ss)
end_is d b ss enough =
    let long : length (seen (start_in d) (take b.count ss)) ≡ b.count =
    length-reverse (map (start_in d) (take b.count ss)) ∙ length-map (take b.count ss) (start_in d)
    ∙ length-take-le b.count ss enough in
    ap (λ n. outermost n (seen entry_in ss)) long ∙ sym (reverse_take b.count (map entry_in ss))
    ∙ ap reverse (take-map entry_in b.count ss)

-- fewer slots, but all those that the innermost block began with
left_marked : (k : ℕ) (ss : List Slot) (b : Branching) (bs : List Branching) → b.count ≤ k → AreMarked ss b bs
    → AreMarked (take k ss) b bs
left_marked k ss b bs least marked =
    let same = take-take b.count k ss least in
    let long = length-take k ss in
    let enough = marked.0 in (
      omega arith,
      (λ i s is. marked.1 i s (item_taken k i ss s is)),
      subst (AreListed (suc (length bs)) (numbers_of b.changes)) (sym same) marked.2,
      subst (λ js. without (is_marked (suc (length bs))) js + length b.changes ≤ b.count) (sym same) marked.3,
    )

pub left_tracked : (k : ℕ) (ss : List Slot) (b : Branching) (bs : List Branching) → b.count ≤ k
    → AreTracked ss (b ∷ bs) → AreTracked (take k ss) (b ∷ bs)
left_tracked k ss b bs least tracked =
    let same = take-take b.count k ss least in (
      left_marked k ss b bs least tracked.0,
      subst (AreSettled (suc (length bs)) b) (sym same) tracked.1,
      subst (λ js. without (is_recent (suc (length bs))) js + length b.recent ≤ b.count) (sym same) tracked.2,
      subst (λ js. AreTracked (undone b.changes js) bs) (sym same) tracked.3,
    )

inside_joined : (d : ℕ) (ended : Bool) → IsInside d (joined d ended)
inside_joined d ended = record {
  names = λ s. joined_name (nat_eq s.mark d) ended s;
  marks = λ s. joined_mark (nat_eq s.mark d) ended s;
  others = joined_not d ended;
}

pub inside_restarted : (d : ℕ) → IsInside d (restarted d)
inside_restarted d = record {
  names = λ s. restarted_name (nat_eq s.mark d) s;
  marks = λ s. restarted_mark (nat_eq s.mark d) s;
  others = restarted_not d;
}

-- two changes of the entries of one block, each of one after another
module _ (f g : Slot → Slot) (ns ms : List ℕ) (ss : List Slot) (b : Branching) (bs : List Branching)
    (first : IsInside (suc (length bs)) f) (second : IsInside (suc (length bs)) g)
    (marked : AreMarked ss b bs) where
  based : AreMarked (take b.count ss) b bs
  based = left_marked b.count ss b bs (omega arith) marked

  pub once_marked : AreMarked (each f ns (take b.count ss)) b bs
  once_marked = marked_each f ns (take b.count ss) b bs first based

  pub twice_marked : AreMarked (each g ms (each f ns (take b.count ss))) b bs
  twice_marked = marked_each g ms (each f ns (take b.count ss)) b bs second once_marked

  pub twice_behind : before b (each g ms (each f ns (take b.count ss))) ≡ before b ss
  twice_behind =
      before_each g ms (each f ns (take b.count ss)) b bs second once_marked
      ∙ before_each f ns (take b.count ss) b bs first based
      ∙ ap (undone b.changes) (take-take b.count b.count ss (omega arith))

-- what belongs together where a block goes on with its next branch
pub goes_on : (slots ss : List Slot) (b after : Branching) (bs : List Branching) → after.count ≡ b.count
    → after.recent ≡ [] → take after.count slots ≡ slots → AreMarked slots after bs
    → AreSettled (suc (length bs)) after slots → before after slots ≡ before b ss → AreTracked ss (b ∷ bs)
    → AreTracked slots (after ∷ bs)
goes_on slots ss b after bs count none all marked settled behind tracked =
    let few = all_without (is_recent (suc (length bs))) slots in
    let long = length-take after.count slots in
    let same = ap length all in
    let empty = ap length none in (
      marked,
      subst (AreSettled (suc (length bs)) after) (sym all) settled,
      subst (λ js. without (is_recent (suc (length bs))) js + length after.recent ≤ after.count) (sym all)
          (omega arith),
      subst (λ js. AreTracked js bs) (sym behind) tracked.3,
    )

module _ (ss : List Slot) (b : Branching) (bs : List Branching) (tracked : AreTracked ss (b ∷ bs)) where
  abbrev depth : ℕ
  depth = suc (length bs)

  abbrev base : List Slot
  base = take b.count ss

  abbrev slots : List Slot
  slots = turned_slots depth b base

  whole_turn : slots ≡ map (restarted depth) (map (joined depth b.ended) base)
  whole_turn = turn_is depth b base tracked.0.2 tracked.1

  by_list : slots
      ≡ each (restarted depth) (numbers_of b.changes) (each (joined depth b.ended) (numbers_of b.changes) base)
  by_list = whole_turn ∙ sym (listed_turn depth b base tracked.0.2)

  slots_marked : AreMarked slots b bs
  slots_marked = subst (λ ks. AreMarked ks b bs) (sym by_list)
      (twice_marked (joined depth b.ended) (restarted depth) (numbers_of b.changes) (numbers_of b.changes) ss b bs
      (inside_joined depth b.ended) (inside_restarted depth) tracked.0)

  behind : before b slots ≡ before b ss
  behind = ap (before b) by_list
      ∙ twice_behind (joined depth b.ended) (restarted depth) (numbers_of b.changes) (numbers_of b.changes) ss b bs
      (inside_joined depth b.ended) (inside_restarted depth) tracked.0

  slots_are : slots ≡ map (λ s. after_by (nat_eq s.mark depth) b.ended s) base
  slots_are =
      whole_turn
      ∙ map_again (restarted depth) (joined depth b.ended) (λ s. after_by (nat_eq s.mark depth) b.ended s) base
      (after_is depth b.ended)

  -- what is seen of the slots after the branch
  views : (g : Bool → Slot → Entry) (h : Slot → Entry)
      → ((t : Bool) (s : Slot) → nat_eq s.mark depth ≡ t → g t (after_by t b.ended s) ≡ h s)
      → map (λ s. g (nat_eq s.mark depth) s) slots ≡ map h base
  views g h same =
      ap (map (λ s. g (nat_eq s.mark depth) s)) slots_are
      ∙ map_again (λ s. g (nat_eq s.mark depth) s) (λ s. after_by (nat_eq s.mark depth) b.ended s) h base
      (λ s. let t = nat_eq s.mark depth in
      ap (λ m. g (nat_eq m depth) (after_by t b.ended s)) (after_mark t b.ended s) ∙ same t s refl)

  all_taken : take b.count slots ≡ slots
  all_taken =
      let long = ap length slots_are in
      let mapped = length-map base (λ s. after_by (nat_eq s.mark depth) b.ended s) in
      let cut = length-take b.count ss in
      take_all b.count slots (omega arith)

  ends_by : (e : Bool) → b.ended ≡ e
      → map (end_in depth) slots ≡ map (cond e (λ s. hull_entry (end_in depth s) (entry_in s)) entry_in) base
  ends_by true is = views end_by (λ s. hull_entry (end_in depth s) (entry_in s))
      (λ t s test. (λ i. end_by t (after_by t (is i) s)) ∙ further_end t s
      ∙ (λ i. hull_entry (end_by (sym test i) s) (entry_in s)))
  ends_by false is = views end_by entry_in (λ t s test. (λ i. end_by t (after_by t (is i) s)) ∙ first_end t s)

  ends_are : (e : Bool) → b.ended ≡ e → seen (end_in depth) slots
      ≡ ends_with (ends_seen e (seen (end_in depth) base)) (end_of (block_in depth b ss) (seen entry_in ss))
  ends_are true is =
      ap reverse (ends_by true is) ∙ sym (hulls_seen (end_in depth) entry_in base)
      ∙ ap (hulls (seen (end_in depth) base)) (sym (end_is depth b ss tracked.0.0))
  ends_are false is = ap reverse (ends_by false is) ∙ sym (end_is depth b ss tracked.0.0)

  block_follows : Follows (next_in ss (b ∷ bs))
      (next (record { entries = seen entry_in ss; blocks = blocks_in ss (b ∷ bs) }))
  block_follows =
      let starts = ap reverse (views (λ t s. start_by t s) (start_in depth)
      (λ t s test. start_after t b.ended s ∙ (λ i. start_by (sym test i) s))) in record {
        entries = ap reverse (views (λ t s. entry_in s) (start_in depth)
            (λ t s test. entry_after t b.ended s ∙ (λ i. start_by (sym test i) s)));
        blocks = (λ i. record {
          start = seen (start_in depth) (all_taken i);
          ends = Some (seen (end_in depth) (all_taken i));
        } ∷ blocks_in (behind i) bs)
            ∙ (λ i. record { start = starts i; ends = Some (ends_are b.ended refl i) } ∷ blocks_in (before b ss) bs);
        tracked = goes_on slots ss b (turned_block b) bs refl refl all_taken slots_marked
            (subst (AreSettled depth (turned_block b)) (sym whole_turn)
            (turned_settled depth b base tracked.0.2 tracked.1))
            behind tracked;
      }

pub next_follows : (ss : List Slot) (bs : List Branching) → AreTracked ss bs
    → Follows (next_in ss bs) (next (record { entries = seen entry_in ss; blocks = blocks_in ss bs }))
next_follows ss [] tracked = record { entries = refl; blocks = refl; tracked = tracked }
next_follows ss (b ∷ bs) tracked = block_follows ss b bs tracked
