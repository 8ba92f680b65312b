-- A block that ends, where the block around has empty lists and takes over those of the inner one.
use Rattle.std.proofs.Common.{◌≡◌, ℕ, zero, suc, ◌+◌, ◌<◌, ◌≤◌, Bool, true, false, cond, List, [], ◌∷◌, length, map}
use Rattle.std.proofs.Common.{reverse, take, Some, refl, sym, ap, subst, arith, ◌∙◌, nat_eq}
use Rattle.std.proofs.lemmas.Bool.Decides.{nat_tests}
use Rattle.std.proofs.lemmas.List.{length-take-le, length-map}
use Rattle.std.proofs.lemmas.Bool.{eqb-true, false_from_ne_true, eq-eqb}
use Rattle.small_laws.proofs.Connectives.{cond_true-second}
use Rattle.scalar_ranges.specs.Environments.{item_at}
use Rattle.scalar_ranges.specs.Moves.{is_one_of, with_meaning, end}
use Rattle.scalar_ranges.specs.Changes.{Slot, Change, Branching, modify, entry_in, start_in, end_in, restored, undone}
use Rattle.scalar_ranges.specs.Changes.{before, seen, ends_seen, blocks_in, numbers_of, without, is_marked}
use Rattle.scalar_ranges.specs.Changes.{is_recent, AreMarked, AreSettled, AreTracked, meaning_after, Follows}
use Rattle.scalar_ranges.specs.Changes.{handed_slot, handed, handed_block, handed_over, AreForeign}
use Rattle.scalar_ranges.proofs.Numbered.{modify_long, take_modify, map_modify, map_unmodified}
use Rattle.scalar_ranges.proofs.Numbered.{items_modified, item_taken}
use Rattle.scalar_ranges.proofs.Tracking.{undone_listed}
use Rattle.scalar_ranges.proofs.Following.{map_alike, not_yet}
use Rattle.scalar_ranges.proofs.Ending.{undone_other, undone_long, final_entry, final_seen}

-- ---- how many have a mark

counted_one : (p q : Bool) (u l t k : ℕ) → (p ≡ true → q ≡ true) → u + l ≤ t + k
    → cond q u (suc u) + suc l ≤ cond p t (suc t) + suc k
counted_one true true u l t k same less = omega arith
counted_one true false u l t k same less = absurd (cc (same refl))
counted_one false true u l t k same less = omega arith
counted_one false false u l t k same less = omega arith

-- one that is beyond
counted_beyond : (p : Bool) (l t : ℕ) → p ≡ false → l ≤ t → suc l ≤ cond p t (suc t)
counted_beyond true l t none less = absurd (cc)
counted_beyond false l t none less = omega arith

none_counted : (test : Slot → Bool) (ss : List Slot)
    → ((i : ℕ) (s : Slot) → item_at i ss ≡ Some s → test s ≡ true → ⊥) → length ss ≤ without test ss
none_counted test [] none = omega arith
none_counted test (s ∷ ss) none =
    counted_beyond (test s) (length ss) (without test ss) (false_from_ne_true (test s) (λ h. none 0 s refl h))
    (none_counted test ss (λ i k is h. none (suc i) k is h))

-- a slot for which a test holds is among the first k
abbrev AreLow : (Slot → Bool) → ℕ → List Slot → Type 0
AreLow test k xs = (i : ℕ) (x : Slot) → item_at i xs ≡ Some x → test x ≡ true → i < k

-- Where the first test holds of a slot, the second one holds of what becomes of it.
abbrev AreFollowed : (Slot → Bool) → (Slot → Bool) → List Slot → List Slot → Type 0
AreFollowed test after xs ys =
    (i : ℕ) (x y : Slot) → item_at i xs ≡ Some x → item_at i ys ≡ Some y → test x ≡ true → after y ≡ true

counted : (test after : Slot → Bool) (k : ℕ) (xs ys : List Slot) → length ys ≡ length xs → k ≤ length xs
    → AreLow test k xs → AreFollowed test after xs ys → without after (take k ys) + length xs ≤ without test xs + k
counted test after zero xs ys long less low followed =
    let none = none_counted test xs (λ i s is h. let at = low i s is h in absurd (omega arith)) in
    omega (arith, none)
counted test after (suc k) [] ys long less low followed = absurd (omega arith)
counted test after (suc k) (x ∷ xs) [] long less low followed = absurd (omega arith)
counted test after (suc k) (x ∷ xs) (y ∷ ys) long less low followed =
    counted_one (test x) (after y) (without after (take k ys)) (length xs) (without test xs) k
    (λ h. followed 0 x y refl refl h)
    (counted test after k xs ys (omega arith) (omega arith)
    (λ i a here h. let at = low (suc i) a here h in omega arith)
    (λ i a b here there h. followed (suc i) a b here there h))

-- ---- each entry

-- what becomes of an entry, by whether the list has it
abbrev IsHanded : Bool → ℕ → ℕ → List Slot → Slot → Type 0
IsHanded false d i ss s = item_at i ss ≡ Some s
IsHanded true d i ss s = (s.mark ≡ d) × (s.recent ≡ true)

handed_item : (inner d : ℕ) (ended : Bool) (cs : List Change) (ss : List Slot) (i : ℕ) (s : Slot)
    → item_at i (handed inner d ended cs ss) ≡ Some s → IsHanded (is_one_of (numbers_of cs) i) d i ss s
handed_item inner d ended [] ss i s is = is
handed_item inner d ended (c ∷ cs) ss i s is =
    items_modified (λ k x. IsHanded (cond (nat_eq c.number k) true (is_one_of (numbers_of cs) k)) d k ss x)
    (handed_slot inner d ended c.before.meaning) c.number (handed inner d ended cs ss)
    (λ k x apart there. subst (λ t. IsHanded (cond t true (is_one_of (numbers_of cs) k)) d k ss x) (sym apart)
    (handed_item inner d ended cs ss k x there))
    (λ x there. subst (λ t. IsHanded (cond t true (is_one_of (numbers_of cs) c.number)) d c.number ss
    (handed_slot inner d ended c.before.meaning x)) (sym (eq-eqb c.number c.number refl)) (refl, refl))
    i s is

-- an entry that the list does not have, as it was where the block began
left_alone : (inner d : ℕ) (ended : Bool) (cs : List Change) (ss : List Slot) (i : ℕ) (s : Slot)
    → item_at i (handed inner d ended cs ss) ≡ Some s → is_one_of (numbers_of cs) i ≡ false
    → item_at i (undone cs ss) ≡ Some s
left_alone inner d ended cs ss i s is others =
    undone_other cs i ss others
    ∙ subst (λ t. IsHanded t d i ss s) others (handed_item inner d ended cs ss i s is)

handed_long : (inner d : ℕ) (ended : Bool) (cs : List Change) (ss : List Slot)
    → length (handed inner d ended cs ss) ≡ length ss
handed_long inner d ended [] ss = refl
handed_long inner d ended (c ∷ cs) ss =
    modify_long (handed_slot inner d ended c.before.meaning) c.number (handed inner d ended cs ss)
    ∙ handed_long inner d ended cs ss

take_handed : (inner d : ℕ) (ended : Bool) (k : ℕ) (cs : List Change) (ss : List Slot)
    → take k (handed inner d ended cs ss) ≡ handed inner d ended cs (take k ss)
take_handed inner d ended k [] ss = refl
take_handed inner d ended k (c ∷ cs) ss =
    let f = handed_slot inner d ended c.before.meaning in
    take_modify f k c.number (handed inner d ended cs ss)
    ∙ ap (modify f c.number) (take_handed inner d ended k cs ss)

take_undone : (k : ℕ) (cs : List Change) (ss : List Slot) → take k (undone cs ss) ≡ undone cs (take k ss)
take_undone k [] ss = refl
take_undone k (c ∷ cs) ss =
    take_modify (restored c.before) k c.number (undone cs ss)
    ∙ ap (modify (restored c.before) c.number) (take_undone k cs ss)

-- ---- what is seen

-- what the entries mean after the block
finals_handed : (d : ℕ) (ended : Bool) (cs : List Change) (ss : List Slot)
    → map (final_entry (suc d) ended) (handed (suc d) d ended cs ss) ≡ map (final_entry (suc d) ended) ss
finals_handed d ended [] ss = refl
finals_handed d ended (c ∷ cs) ss =
    let m = c.before.meaning in
    map_unmodified (final_entry (suc d) ended) (handed_slot (suc d) d ended m) c.number (handed (suc d) d ended cs ss)
    (λ s is. ap (λ t. record { name = s.name; meaning = cond t (cond ended m m) (meaning_after (suc d) ended s) })
    (not_yet d d (omega arith)))
    ∙ finals_handed d ended cs ss

entry_is : (d : ℕ) (ended : Bool) (s : Slot) → nat_eq s.mark d ≡ false → entry_in s ≡ final_entry d ended s
entry_is d ended s apart =
    ap (λ t. record { name = s.name; meaning = cond t (cond ended s.ends s.start) s.meaning }) (sym apart)

-- where the branches of the block around begin, and at their ends
starts_handed : (inner count d : ℕ) (ended : Bool) (cs : List Change) (ss : List Slot) → AreForeign count d cs
    → map (start_in d) (handed inner d ended cs ss) ≡ map (start_in d) (undone cs ss)
starts_handed inner count d ended [] ss foreign = refl
starts_handed inner count d ended (c ∷ cs) ss foreign =
    let m = c.before.meaning in
    let h = with_meaning (λ k. m) in
    map_modify (start_in d) (handed_slot inner d ended m) h c.number (handed inner d ended cs ss)
    (λ s is. ap (λ t. record { name = s.name; meaning = cond t m (meaning_after inner ended s) })
    (eq-eqb d d refl))
    ∙ ap (modify h c.number) (starts_handed inner count d ended cs ss foreign.2)
    ∙ sym (map_modify (start_in d) (restored c.before) h c.number (undone cs ss)
    (λ s is. ap (λ t. record { name = s.name; meaning = cond t c.before.start m }) foreign.1))

ends_handed : (inner count d : ℕ) (ended : Bool) (cs : List Change) (ss : List Slot) → AreForeign count d cs
    → map (end_in d) (handed inner d ended cs ss) ≡ map (end_in d) (undone cs ss)
ends_handed inner count d ended [] ss foreign = refl
ends_handed inner count d ended (c ∷ cs) ss foreign =
    let m = c.before.meaning in
    let h = with_meaning (λ k. m) in
    map_modify (end_in d) (handed_slot inner d ended m) h c.number (handed inner d ended cs ss)
    (λ s is. ap (λ t. record { name = s.name; meaning = cond t m (meaning_after inner ended s) })
    (eq-eqb d d refl))
    ∙ ap (modify h c.number) (ends_handed inner count d ended cs ss foreign.2)
    ∙ sym (map_modify (end_in d) (restored c.before) h c.number (undone cs ss)
    (λ s is. ap (λ t. record { name = s.name; meaning = cond t c.before.ends m }) foreign.1))

-- the changes can be taken back as before
undone_handed : (inner d : ℕ) (ended : Bool) (cs ds : List Change) (ss : List Slot)
    → ((i : ℕ) → is_one_of (numbers_of ds) i ≡ true → is_one_of (numbers_of cs) i ≡ true)
    → undone cs (handed inner d ended ds ss) ≡ undone cs ss
undone_handed inner d ended cs [] ss within = refl
undone_handed inner d ended cs (e ∷ ds) ss within =
    undone_listed cs (handed_slot inner d ended e.before.meaning) e.number (handed inner d ended ds ss)
    (within e.number (ap (λ t. cond t true (is_one_of (numbers_of ds) e.number)) (eq-eqb e.number e.number refl)))
    (λ s. refl)
    ∙ undone_handed inner d ended cs ds ss
    (λ i h. within i (cond_true-second (nat_eq e.number i) (is_one_of (numbers_of ds) i) h))

-- ---- what belongs together

low_by : (t : Bool) (c : Change) (cs : List Change) (count i : ℕ) → nat_eq c.number i ≡ t → c.number < count
    → cond t true (is_one_of (numbers_of cs) i) ≡ true → (is_one_of (numbers_of cs) i ≡ true → i < count) → i < count
low_by true c cs count i test low listed others = subst (λ n. n < count) (eqb-true c.number i test) low
low_by false c cs count i test low listed others = others listed

-- the block around began with the entries in the list
foreign_low : (count d : ℕ) (cs : List Change) (i : ℕ) → AreForeign count d cs → is_one_of (numbers_of cs) i ≡ true
    → i < count
foreign_low count d [] i foreign listed = absurd (cc)
foreign_low count d (c ∷ cs) i foreign listed =
    low_by (nat_eq c.number i) c cs count i refl foreign.0 listed
    (λ h. foreign_low count d cs i foreign.2 h)

lower : (a d : ℕ) → a ≤ suc d → nat_eq a (suc d) ≡ false → a ≤ d
lower a d less apart = grind (arith, nat_tests)

mark_by : (t : Bool) (d i : ℕ) (ss : List Slot) (s : Slot) → IsHanded t d i ss s
    → (t ≡ false → item_at i ss ≡ Some s → s.mark ≤ d) → s.mark ≤ d
mark_by true d i ss s is others = let same = is.0 in omega arith
mark_by false d i ss s is others = others refl is

-- a slot that the inner block marked is in its list
listed_by : (t u : Bool) → (t ≡ false → u ≡ false) → u ≡ true → t ≡ true
listed_by true u others marked = refl
listed_by false u others marked = absurd (cc (others refl, marked))

recent_is : (d : ℕ) (s : Slot) → s.mark ≡ d → s.recent ≡ true → is_recent d s ≡ true
recent_is d s mark recent = (λ i. cond (nat_eq (mark i) d) s.recent false)
    ∙ ap (λ t. cond t s.recent false) (eq-eqb d d refl) ∙ recent

module _ (ss : List Slot) (b o : Branching) (bs : List Branching) (tracked : AreTracked ss (b ∷ o ∷ bs))
    (none : o.changes ≡ []) (still : o.recent ≡ []) (foreign : AreForeign o.count (suc (length bs)) b.changes) where
  abbrev d : ℕ
  d = suc (length bs)

  abbrev base : List Slot
  base = take b.count ss

  abbrev slots : List Slot
  slots = handed (suc d) d b.ended b.changes base

  abbrev around : Branching
  around = handed_block b.changes o

  -- the slots that both blocks began with
  abbrev low : List Slot
  low = take o.count base

  abbrev numbers : List ℕ
  numbers = numbers_of b.changes

  slots_low : take o.count slots ≡ handed (suc d) d b.ended b.changes low
  slots_low = take_handed (suc d) d b.ended o.count b.changes base

  begun_low : take o.count (before b ss) ≡ undone b.changes low
  begun_low = take_undone o.count b.changes base

  marks_low : (i : ℕ) (s : Slot) → item_at i slots ≡ Some s → s.mark ≤ d
  marks_low i s is =
      mark_by (is_one_of numbers i) d i base s (handed_item (suc d) d b.ended b.changes base i s is)
      (λ others there. lower s.mark d (tracked.0.1 i s (item_taken b.count i ss s there))
      (tracked.0.2 i s there others))

  entries : seen entry_in slots ≡ seen (final_entry (suc d) b.ended) base
  entries =
      ap reverse (map_alike entry_in (final_entry (suc d) b.ended) slots
      (λ i s is. entry_is (suc d) b.ended s (not_yet s.mark d (marks_low i s is)))
      ∙ finals_handed d b.ended b.changes base)

  behind : before around slots ≡ before o (before b ss)
  behind =
      ap (undone b.changes) slots_low ∙ undone_handed (suc d) d b.ended b.changes b.changes low (λ i h. h)
      ∙ sym begun_low ∙ ap (λ cs. undone cs (take o.count (before b ss))) (sym none)

  blocks : blocks_in slots (around ∷ bs) ≡ blocks_in (before b ss) (o ∷ bs)
  blocks =
      let starts = ap (map (start_in d)) slots_low
      ∙ starts_handed (suc d) o.count d b.ended b.changes low foreign ∙ ap (map (start_in d)) (sym begun_low) in
      let ends = ap (map (end_in d)) slots_low
      ∙ ends_handed (suc d) o.count d b.ended b.changes low foreign ∙ ap (map (end_in d)) (sym begun_low) in
      λ i. record { start = reverse (starts i); ends = ends_seen o.ended (reverse (ends i)) } ∷ blocks_in (behind i) bs

  -- an entry that is in no list
  unlisted : (i : ℕ) (s : Slot) → item_at i (take o.count slots) ≡ Some s → is_one_of numbers i ≡ false
      → item_at i (take o.count (before b ss)) ≡ Some s
  unlisted i s is others =
      subst (λ ks. item_at i ks ≡ Some s) (sym begun_low)
      (left_alone (suc d) d b.ended b.changes low i s (subst (λ ks. item_at i ks ≡ Some s) slots_low is) others)

  marked_listed : (i : ℕ) (x : Slot) → item_at i base ≡ Some x → is_marked (suc d) x ≡ true
      → is_one_of numbers i ≡ true
  marked_listed i x here marked =
      listed_by (is_one_of numbers i) (is_marked (suc d) x) (λ others. tracked.0.2 i x here others) marked

  -- and so the block around has it in both lists
  handed_marks : (i : ℕ) (x y : Slot) → item_at i base ≡ Some x → item_at i slots ≡ Some y
      → is_marked (suc d) x ≡ true → (y.mark ≡ d) × (y.recent ≡ true)
  handed_marks i x y here there marked =
      subst (λ t. IsHanded t d i base y) (marked_listed i x here marked)
      (handed_item (suc d) d b.ended b.changes base i y there)

  room : (after : Slot → Bool) → ((s : Slot) → s.mark ≡ d → s.recent ≡ true → after s ≡ true)
      → without after (take o.count slots) + length b.changes ≤ o.count
  room after is_so =
      let long = length-take-le b.count ss tracked.0.0 in
      let same = handed_long (suc d) d b.ended b.changes base in
      let begun = undone_long b.changes base in
      let enough = tracked.3.0.0 in
      let listed = tracked.0.3 in
      let all = counted (is_marked (suc d)) after o.count base slots same (omega arith)
      (λ i x here marked. foreign_low o.count d b.changes i foreign (marked_listed i x here marked))
      (λ i x y here there marked. let it = handed_marks i x y here there marked in is_so y it.0 it.1) in
      omega arith

  now_marked : AreMarked slots around bs
  now_marked =
      let same = handed_long (suc d) d b.ended b.changes base in
      let begun = undone_long b.changes base in
      let enough = tracked.3.0.0 in (
        omega arith,
        marks_low,
        λ i s is others. tracked.3.0.2 i s (unlisted i s is others) (ap (λ cs. is_one_of (numbers_of cs) i) none),
        room (is_marked d) (λ s mark recent. eq-eqb s.mark d mark),
      )

  now_settled : AreSettled d around (take o.count slots)
  now_settled i s is others =
      let settled = tracked.3.1 i s (unlisted i s is others) (ap (λ ns. is_one_of ns i) still) in
      (settled.0, settled.1, λ even apart. settled.2 even apart)

  now_tracked : AreTracked slots (around ∷ bs)
  now_tracked =
      let long = length-map b.changes (λ (c : Change). c.number) in
      let all = room (is_recent d) (λ s mark recent. recent_is d s mark recent) in (
        now_marked,
        now_settled,
        omega arith,
        subst (λ ks. AreTracked ks bs) (sym behind) tracked.3.3,
      )

  pub handed_follows : Follows (handed_over ss b o bs)
      (end (record { entries = seen entry_in ss; blocks = blocks_in ss (b ∷ o ∷ bs) }))
  handed_follows = record {
    entries = entries ∙ final_seen (suc d) b.ended base;
    blocks = blocks;
    tracked = now_tracked;
  }

  -- The block around has capacity for the list.
  pub list_fits : length b.changes ≤ o.count
  list_fits = let enough = room (λ s. true) (λ s mark recent. refl) in omega arith

  -- It began no later than the inner block.
  pub began_before : o.count ≤ b.count
  began_before =
      let long = length-take-le b.count ss tracked.0.0 in
      let begun = undone_long b.changes base in
      let enough = tracked.3.0.0 in
      omega arith
