-- An entry comes to the list of a branch, once the innermost block has it in its own.
use Rattle.std.proofs.Common.{◌≡◌, ℕ, suc, ◌+◌, ◌≤◌, Bool, true, false, cond, not, List, [], ◌∷◌, length, map}
use Rattle.std.proofs.Common.{reverse, take, Option, Some, None, refl, sym, ap, subst, arith, ◌∙◌, nat_eq}
use Rattle.std.proofs.lemmas.Bool.{not-true, true_from_ne_false, eq-eqb}
use Rattle.scalar_ranges.specs.Entries.{Meaning}
use Rattle.scalar_ranges.specs.Environments.{item_at}
use Rattle.scalar_ranges.specs.Moves.{is_one_of, at_number, with_meaning}
use Rattle.scalar_ranges.specs.Changes.{Slot, Branching, Tracked, modify, entry_in, start_in, end_in, before, seen}
use Rattle.scalar_ranges.specs.Changes.{ends_seen, blocks_in, without, is_recent, IsSettled, AreSettled, AreTracked}
use Rattle.scalar_ranges.specs.Changes.{KeepsMarks, touched, touching, note, is_open_in, is_open, touch_if, touch, noted}
use Rattle.scalar_ranges.specs.Changes.{put_by}
use Rattle.scalar_ranges.proofs.Rows.{one_longer}
use Rattle.scalar_ranges.proofs.Widening.{one_more}
use Rattle.scalar_ranges.proofs.Counting.{fewer}
use Rattle.scalar_ranges.proofs.Numbered.{take_modify, map_modify, map_unmodified, reverse_modify, items_modified}
use Rattle.scalar_ranges.proofs.Tracking.{IsListed, IsNoted, lists_well, before_same, still_marked}
use Rattle.scalar_ranges.proofs.Tracking.{tracked_kept, either, first_not}

-- what is so after an entry came to both lists
pub record NotesWell (n : ℕ) (ss : List Slot) (bs : List Branching) (t : Tracked) : Type 0 where
  pub entries : map entry_in t.slots ≡ map entry_in ss
  pub blocks : blocks_in t.slots t.blocks ≡ blocks_in ss bs
  pub tracked : AreTracked t.slots t.blocks
  pub noted : IsNoted n t.slots t.blocks

both_hold : (t u : Bool) → cond t u false ≡ true → (t ≡ true) × (u ≡ true)
both_hold true u h = (refl, h)
both_hold false u h = absurd (cc)

closed_recent : (t u : Bool) → t ≡ true → cond t (not u) false ≡ false → u ≡ true
closed_recent true true here closed = refl
closed_recent true false here closed = absurd (cc)
closed_recent false u here closed = absurd (cc)

-- an entry that is open in the innermost block
pub record IsOpen (n : ℕ) (ss : List Slot) (b : Branching) (bs : List Branching) : Type 0 where
  pub slot : Slot
  pub is : item_at n (take b.count ss) ≡ Some slot
  pub here : nat_eq slot.mark (suc (length bs)) ≡ true
  pub apart : slot.recent ≡ false

open_in : (n : ℕ) (ss : List Slot) (b : Branching) (bs : List Branching) (o : Option Slot)
    → item_at n (take b.count ss) ≡ o → is_open_in (suc (length bs)) o ≡ true → IsOpen n ss b bs
open_in n ss b bs None is free = absurd (cc)
open_in n ss b bs (Some s) is free =
    let both = both_hold (nat_eq s.mark (suc (length bs))) (not s.recent) free in
    record { slot = s; is = is; here = both.0; apart = not-true s.recent both.1 }

open_is : (n : ℕ) (ss : List Slot) (b : Branching) (bs : List Branching) → is_open n ss (b ∷ bs) ≡ true
    → IsOpen n ss b bs
open_is n ss b bs free = open_in n ss b bs (item_at n (take b.count ss)) refl free

open_recent : {n : ℕ} {ss : List Slot} {b : Branching} {bs : List Branching} (o : IsOpen n ss b bs)
    → is_recent (suc (length bs)) o.slot ≡ false
open_recent {n} {ss} {b} {bs} o = ap (λ t. cond t o.slot.recent false) o.here ∙ o.apart

module _ (n : ℕ) (ss : List Slot) (b : Branching) (bs : List Branching) (tracked : AreTracked ss (b ∷ bs))
    (o : IsOpen n ss b bs) where
  abbrev depth : ℕ
  depth = suc (length bs)

  abbrev base : List Slot
  base = take b.count ss

  abbrev after : Branching
  after = touching n b

  at : take b.count (modify touched n ss) ≡ modify touched n base
  at = take_modify touched b.count n ss

  listed : IsListed n ss (b ∷ bs)
  listed s there =
      let same : o.slot ≡ s = cc (o.is, there) in
      subst (λ (x : Slot). nat_eq x.mark depth ≡ true) same o.here

  behind : before after (modify touched n ss) ≡ before b ss
  behind = before_same touched n ss b bs (λ s. refl) listed tracked.0

  blocks : blocks_in (modify touched n ss) (after ∷ bs) ≡ blocks_in ss (b ∷ bs)
  blocks =
      let starts = ap (map (start_in depth)) at
      ∙ map_unmodified (start_in depth) touched n base (λ k there. refl) in
      let ends = ap (map (end_in depth)) at ∙ map_unmodified (end_in depth) touched n base (λ k there. refl) in
      λ i. record { start = reverse (starts i); ends = ends_seen b.ended (reverse (ends i)) }
      ∷ blocks_in (behind i) bs

  one_of : (k : ℕ) → is_one_of after.recent k ≡ cond (is_one_of b.recent k) true (nat_eq n k)
  one_of k = one_more b.recent n k

  in_list : is_one_of after.recent n ≡ true
  in_list = one_of n ∙ ap (cond (is_one_of b.recent n) true) (eq-eqb n n refl) ∙ either (is_one_of b.recent n) true

  settled : AreSettled depth after (modify touched n base)
  settled = items_modified (λ i k. is_one_of after.recent i ≡ false → IsSettled depth after i k) touched n base
      (λ i k apart there others. tracked.1 i k there (first_not (is_one_of b.recent i) (nat_eq n i)
      (sym (one_of i) ∙ others)))
      (λ k there others. absurd (cc (in_list, others)))

  room : without (is_recent depth) (modify touched n base) + length after.recent ≤ b.count
  room =
      let less = fewer (is_recent depth) touched n base o.slot o.is (open_recent o)
      (ap (λ t. cond t true false) o.here) in
      let more = one_longer b.recent n in
      let old = tracked.2 in
      omega arith

  touched_tracked : AreTracked (modify touched n ss) (after ∷ bs)
  touched_tracked = (
    still_marked touched n ss b bs (λ s. refl) tracked.0,
    subst (AreSettled depth after) (sym at) settled,
    subst (λ ks. without (is_recent depth) ks + length after.recent ≤ b.count) (sym at) room,
    subst (λ k. AreTracked k bs) (sym behind) tracked.3,
  )

  touched_listed : (s : Slot) → item_at n (take b.count (modify touched n ss)) ≡ Some s → nat_eq s.mark depth ≡ true
  touched_listed s there =
      items_modified (λ i j. i ≡ n → nat_eq j.mark depth ≡ true) touched n base
      (λ i j apart here same. absurd (cc (eq-eqb n i (sym same), apart)))
      (λ j here same. listed j here) n s (subst (λ js. item_at n js ≡ Some s) at there) refl

  touched_well : NotesWell n ss (b ∷ bs) (touch_if true n ss b bs)
  touched_well = record {
    entries = map_unmodified entry_in touched n ss (λ k there. refl);
    blocks = blocks;
    tracked = touched_tracked;
    noted = λ s is. (touched_listed s is, in_list);
  }

-- an entry that is not open
in_branch : (n : ℕ) (ss : List Slot) (b : Branching) (bs : List Branching) → AreTracked ss (b ∷ bs)
    → IsListed n ss (b ∷ bs) → is_open n ss (b ∷ bs) ≡ false → (s : Slot) → item_at n (take b.count ss) ≡ Some s
    → is_one_of b.recent n ≡ true
in_branch n ss b bs tracked listed closed s is = true_from_ne_false (is_one_of b.recent n) (λ others.
    let d = suc (length bs) in
    let here = ap (is_open_in d) (sym is) ∙ closed in
    let apart = (tracked.1 n s is others).0 in
    let not_recent : s.recent ≡ false = ap (λ t. cond t s.recent false) (sym (listed s is)) ∙ apart in
    absurd (cc (closed_recent (nat_eq s.mark d) s.recent (listed s is) here, not_recent)))

touches_by : (t : Bool) (n : ℕ) (ss : List Slot) (b : Branching) (bs : List Branching) → AreTracked ss (b ∷ bs)
    → IsListed n ss (b ∷ bs) → is_open n ss (b ∷ bs) ≡ t → NotesWell n ss (b ∷ bs) (touch_if t n ss b bs)
touches_by true n ss b bs tracked noting free = touched_well n ss b bs tracked (open_is n ss b bs free)
touches_by false n ss b bs tracked noting closed = record {
  entries = refl;
  blocks = refl;
  tracked = tracked;
  noted = λ s is. (noting s is, in_branch n ss b bs tracked noting closed s is);
}

touches_well : (n : ℕ) (ss : List Slot) (bs : List Branching) → AreTracked ss bs → IsListed n ss bs
    → NotesWell n ss bs (touch n ss bs)
touches_well n ss [] tracked noting = record { entries = refl; blocks = refl; tracked = tracked; noted = tt }
touches_well n ss (b ∷ bs) tracked noting = touches_by (is_open n ss (b ∷ bs)) n ss b bs tracked noting refl

pub notes_well : (n : ℕ) (ss : List Slot) (bs : List Branching) → AreTracked ss bs
    → NotesWell n ss bs (noted n ss bs)
notes_well n ss bs tracked =
    let first = lists_well n ss bs tracked in
    let second = touches_well n (note n ss bs).slots (note n ss bs).blocks first.tracked first.listed in
    record {
      entries = second.entries ∙ first.entries;
      blocks = second.blocks ∙ first.blocks;
      tracked = second.tracked;
      noted = second.noted;
    }

-- an entry that changes once it is noted
pub put_tracked : (f : Slot → Slot) (n : ℕ) (t : Tracked) → KeepsMarks f → AreTracked t.slots t.blocks
    → AreTracked (put_by f n t).slots (put_by f n t).blocks
put_tracked f n t within tracked =
    let well = notes_well n t.slots t.blocks tracked in
    tracked_kept f n (noted n t.slots t.blocks).slots (noted n t.slots t.blocks).blocks within well.noted well.tracked

-- what is seen of it
pub put_entries : (f : Slot → Slot) (m : Meaning) (n : ℕ) (t : Tracked)
    → ((s : Slot) → entry_in (f s) ≡ with_meaning (λ k. m) (entry_in s)) → AreTracked t.slots t.blocks
    → seen entry_in (put_by f n t).slots ≡ at_number (with_meaning (λ k. m)) n (seen entry_in t.slots)
put_entries f m n t means tracked =
    let after = (noted n t.slots t.blocks).slots in
    let well = notes_well n t.slots t.blocks tracked in
    ap reverse (map_modify entry_in f (with_meaning (λ k. m)) n after (λ s is. means s))
    ∙ reverse_modify (with_meaning (λ k. m)) n (map entry_in after)
    ∙ ap (λ es. at_number (with_meaning (λ k. m)) n (reverse es)) well.entries
