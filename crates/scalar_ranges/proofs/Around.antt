-- An entry changes where the innermost blocks began, which do not have it in their lists.
use Rattle.std.proofs.Common.{◌≡◌, ℕ, suc, ◌+◌, ◌<◌, ◌≤◌, Bool, true, false, cond, not, List, [], ◌∷◌, length, map}
use Rattle.std.proofs.Common.{zero, reverse, take, Option, Some, None, option_map, refl, sym, ap, subst, arith, ◌∙◌}
use Rattle.std.proofs.Common.{nat_eq, ◌⊎◌, inl, inr, ◌++◌, vec_capacity, drop, set, get_or}
use Rattle.std.proofs.lemmas.List.{length-take, length-drop, map-append, reverse-append}
use Rattle.std.proofs.lemmas.Bool.{eq-eqb, cases_lt}
use Rattle.small_laws.proofs.Comparisons.{lt-eqb}
use Rattle.scalar_ranges.specs.declared.slots.Slot as code_slot
use Rattle.scalar_ranges.specs.declared.slots.Branching as code_branching
use Rattle.scalar_ranges.specs.Entries.{Meaning, Entry}
use Rattle.scalar_ranges.specs.Environments.{item_at}
use Rattle.scalar_ranges.specs.Moves.{is_one_of, at_number, with_meaning, hull_meaning, Block}
use Rattle.scalar_ranges.specs.Moves.{Known}
use Rattle.scalar_ranges.specs.Changes.{Slot, Change, Branching, Tracked, modify, entry_in, start_in, end_in, restored}
use Rattle.scalar_ranges.specs.Changes.{undone, before, seen, ends_seen, blocks_in, known_in, numbers_of, AreListed}
use Rattle.scalar_ranges.specs.Changes.{without, is_marked, is_recent, AreMarked, IsSettled, AreSettled, AreTracked}
use Rattle.scalar_ranges.specs.Changes.{with_new, with_restart, with_end, marked, touched, listing, note_if, note}
use Rattle.scalar_ranges.specs.Changes.{is_open_in, is_open, touch_if, touch, noted, put, noted_slot, noted_block}
use Rattle.scalar_ranges.specs.Changes.{listing_if, touching_if, noted_slots, noted_in, HasRoomFor, AreUpTo, block_in}
use Rattle.scalar_ranges.specs.Changes.{IsOutside, AreOutside, Follows, changed_to, changed_around, known_around}
use Rattle.scalar_ranges.specs.Changes.{KeepsMarks, put_by, with_ends, changed_ends, ends_around}
use Rattle.scalar_ranges.specs.ChangeViews.{slots_from, branching_of, branchings_from, tracked_from, BelongTogether}
use Rattle.scalar_ranges.proofs.Counting.{without_same}
use Rattle.scalar_ranges.proofs.Numbered.{modify_long, take_modify, map_modify, reverse_modify, items_modified}
use Rattle.scalar_ranges.proofs.Numbered.{unmodified, modify_swap, item_modified, item_taken, other_item}
use Rattle.scalar_ranges.proofs.Tracking.{first_not, second_not, new_within}
use Rattle.scalar_ranges.proofs.Components.{ends_within, ends_follow}
use Rattle.scalar_ranges.proofs.Deferring.{not_changed}
use Rattle.scalar_ranges.proofs.Following.{put_follows}
use Rattle.scalar_ranges.proofs.Cutting.{list_room, branch_room}
use Rattle.scalar_ranges.proofs.SlotLoops.{item_within, item_beyond}
use Rattle.scalar_ranges.proofs.Turning.{followed}
use Rattle.scalar_ranges.proofs.Noting.{branchings_long, branchings_more}
use Rattle.scalar_ranges.specs.Deferring.{AreApart, StayApart}

both_modified : {A : Type 0} (f g : A → A) (n : ℕ) (xs : List A)
    → modify f n (modify g n xs) ≡ modify (λ x. f (g x)) n xs
both_modified f g n [] = refl
both_modified f g zero (x ∷ xs) = refl
both_modified f g (suc n) (x ∷ xs) = ap (λ ys. x ∷ ys) (both_modified f g n xs)

same_modified : {A : Type 0} (f g : A → A) (n : ℕ) (xs : List A) → ((x : A) → item_at n xs ≡ Some x → f x ≡ g x)
    → modify f n xs ≡ modify g n xs
same_modified f g n [] same = refl
same_modified f g zero (x ∷ xs) same = ap (λ y. y ∷ xs) (same x refl)
same_modified f g (suc n) (x ∷ xs) same = ap (λ ys. x ∷ ys) (same_modified f g n xs same)

-- ---- both lists of a block

module _ (n : ℕ) (ss : List Slot) (o : Branching) (bs : List Branching) (s : Slot)
    (is : item_at n (take o.count ss) ≡ Some s) where
  abbrev d : ℕ
  d = suc (length bs)

  abbrev both : Tracked
  both = record { slots = modify (noted_slot d) n ss; blocks = noted_block d n s o ∷ bs }

  here : item_at n ss ≡ Some s
  here = item_taken o.count n ss s is

  -- what noting comes to
  note_is : (t : Bool) → nat_eq s.mark d ≡ t → note n ss (o ∷ bs) ≡ cond t (record { slots = ss; blocks = o ∷ bs })
      (record { slots = modify (marked d) n ss; blocks = listing n s o ∷ bs })
  note_is t test = ap (note_if d n ss o bs) is
      ∙ ap (λ t. cond t (record { slots = ss; blocks = o ∷ bs })
      (record { slots = modify (marked d) n ss; blocks = listing n s o ∷ bs })) test

  touched_already : (u : Bool) → s.recent ≡ u → u ≡ true → touched s ≡ s
  touched_already u recent is_so = λ i. record s { recent = sym (recent ∙ is_so) i }

  block_is : (t u : Bool) → nat_eq s.mark d ≡ t → s.recent ≡ u
      → noted_block d n s o ≡ touching_if (cond t u false) n (listing_if t n s o)
  block_is t u test recent = λ i. touching_if (cond (test i) (recent i) false) n (listing_if (test i) n s o)

  slots_by : (f : Slot → Slot) → noted_slot d s ≡ f s → modify f n ss ≡ modify (noted_slot d) n ss
  slots_by f same = same_modified f (noted_slot d) n ss
      (λ x there. let alike : s ≡ x = cc (here, there) in subst (λ k. f k ≡ noted_slot d k) alike (sym same))

  open_here : (t u : Bool) → nat_eq s.mark d ≡ t → s.recent ≡ u → is_open n ss (o ∷ bs) ≡ cond t (not u) false
  open_here t u test recent = ap (is_open_in d) is ∙ (λ i. cond (test i) (not (recent i)) false)

  open_marked : is_open n (modify (marked d) n ss) (listing n s o ∷ bs) ≡ true
  open_marked =
      ap (λ ks. is_open_in d (item_at n ks)) (take_modify (marked d) o.count n ss)
      ∙ ap (is_open_in d) (item_modified (marked d) n (take o.count ss) s is)
      ∙ ap (λ t. cond t true false) (eq-eqb d d refl)

  noted_by : (t u : Bool) → nat_eq s.mark d ≡ t → s.recent ≡ u → noted n ss (o ∷ bs) ≡ both
  noted_by true true test recent =
      ap (λ (k : Tracked). touch n k.slots k.blocks) (note_is true test)
      ∙ ap (λ t. touch_if t n ss o bs) (open_here true true test recent)
      ∙ (λ i. record {
        slots = (sym (unmodified (λ k. k) n ss (λ x there. refl))
            ∙ slots_by (λ k. k) (ap (λ t. touched (cond t s (marked d s))) test
            ∙ touched_already true recent refl)) i;
        blocks = sym (block_is true true test recent) i ∷ bs;
      })
  noted_by true false test recent =
      ap (λ (k : Tracked). touch n k.slots k.blocks) (note_is true test)
      ∙ ap (λ t. touch_if t n ss o bs) (open_here true false test recent)
      ∙ (λ i. record {
        slots = slots_by touched (ap (λ t. touched (cond t s (marked d s))) test) i;
        blocks = sym (block_is true false test recent) i ∷ bs;
      })
  noted_by false u test recent =
      ap (λ (k : Tracked). touch n k.slots k.blocks) (note_is false test)
      ∙ ap (λ t. touch_if t n (modify (marked d) n ss) (listing n s o) bs) open_marked
      ∙ (λ i. record {
        slots = (both_modified touched (marked d) n ss
            ∙ slots_by (λ k. touched (marked d k)) (ap (λ t. touched (cond t s (marked d s))) test)) i;
        blocks = sym (block_is false u test recent) i ∷ bs;
      })

  pub noted_here : noted n ss (o ∷ bs) ≡ both
  noted_here = noted_by (nat_eq s.mark d) s.recent refl refl

-- an entry with which the block did not begin
noted_not : (n : ℕ) (ss : List Slot) (o : Branching) (bs : List Branching) → item_at n (take o.count ss) ≡ None
    → noted n ss (o ∷ bs) ≡ record { slots = ss; blocks = o ∷ bs }
noted_not n ss o bs none =
    ap (λ (k : Tracked). touch n k.slots k.blocks) (ap (note_if (suc (length bs)) n ss o bs) none)
    ∙ ap (λ x. touch_if (is_open_in (suc (length bs)) x) n ss o bs) none

-- either of both
innermost_noted : (n : ℕ) (ss : List Slot) (o : Branching) (bs : List Branching) (x : Option Slot)
    → item_at n (take o.count ss) ≡ x → noted n ss (o ∷ bs) ≡ record {
      slots = noted_slots (suc (length bs)) n x ss;
      blocks = noted_in (suc (length bs)) n x o ∷ bs;
    }
innermost_noted n ss o bs None none = noted_not n ss o bs none
innermost_noted n ss o bs (Some s) is = noted_here n ss o bs s is

item_cut_by : (k n : ℕ) (xs ys : List Slot) → item_at n xs ≡ item_at n ys → (n < k) ⊎ (k ≤ n)
    → item_at n (take k xs) ≡ item_at n (take k ys)
item_cut_by k n xs ys same (inl less) = item_within n k xs less ∙ same ∙ sym (item_within n k ys less)
item_cut_by k n xs ys same (inr least) =
    let first = length-take k xs in
    let second = length-take k ys in
    item_beyond n (take k xs) (omega arith) ∙ sym (item_beyond n (take k ys) (omega arith))

item_cut : (k n : ℕ) (xs ys : List Slot) → item_at n xs ≡ item_at n ys → item_at n (take k xs) ≡ item_at n (take k ys)
item_cut k n xs ys same = item_cut_by k n xs ys same (cases_lt n k)

-- ---- an entry that a block does not have in its list

undone_apart : (cs : List Change) (g : Slot → Slot) (n : ℕ) (ss : List Slot) → is_one_of (numbers_of cs) n ≡ false
    → undone cs (modify g n ss) ≡ modify g n (undone cs ss)
undone_apart [] g n ss free = refl
undone_apart (c ∷ cs) g n ss free =
    ap (modify (restored c.before) c.number) (undone_apart cs g n ss
    (second_not (nat_eq c.number n) (is_one_of (numbers_of cs) n) free))
    ∙ modify_swap (restored c.before) g c.number n (undone cs ss)
    (first_not (nat_eq c.number n) (is_one_of (numbers_of cs) n) free)

pub undone_item : (cs : List Change) (n : ℕ) (ss : List Slot) → is_one_of (numbers_of cs) n ≡ false
    → item_at n (undone cs ss) ≡ item_at n ss
undone_item [] n ss free = refl
undone_item (c ∷ cs) n ss free =
    other_item (restored c.before) c.number n (undone cs ss)
    (first_not (nat_eq c.number n) (is_one_of (numbers_of cs) n) free)
    ∙ undone_item cs n ss (second_not (nat_eq c.number n) (is_one_of (numbers_of cs) n) free)

-- what becomes of its slot
pub record Renews (h : Meaning → Meaning) (d : ℕ) (g : Slot → Slot) : Type 0 where
  pub names : (s : Slot) → (g s).name ≡ s.name
  pub means : (s : Slot) → (g s).meaning ≡ h s.meaning
  pub apart : (s : Slot) → nat_eq s.mark d ≡ false → nat_eq (g s).mark d ≡ false
  pub low : (s : Slot) → s.mark ≤ d → (g s).mark ≤ d

noted_name : (t : Bool) (d : ℕ) (s : Slot) → (cond t s (marked d s)).name ≡ s.name
noted_name true d s = refl
noted_name false d s = refl

noted_apart : (t : Bool) (d e : ℕ) (s : Slot) → d < e → nat_eq s.mark e ≡ false
    → nat_eq (cond t s (marked d s)).mark e ≡ false
noted_apart true d e s less apart = apart
noted_apart false d e s less apart = lt-eqb d e less

noted_low : (t : Bool) (d e : ℕ) (s : Slot) → d < e → s.mark ≤ e → (cond t s (marked d s)).mark ≤ e
noted_low true d e s less low = low
noted_low false d e s less low = omega arith

noted_meaning : (t : Bool) (d : ℕ) (s : Slot) → (cond t s (marked d s)).meaning ≡ s.meaning
noted_meaning true d s = refl
noted_meaning false d s = refl

-- how a slot changes that a block has in its lists, and what is known then
pub record Changing (n : ℕ) (f : Slot → Slot) (h : Meaning → Meaning) (k : List Block → List Block) : Type 0 where
  pub within : KeepsMarks f
  pub means : (s : Slot) → (f s).meaning ≡ h s.meaning
  pub moves : (t : Tracked) → AreTracked t.slots t.blocks → Follows (put_by f n t) (record {
    entries = at_number (with_meaning h) n (known_in t).entries;
    blocks = k (known_in t).blocks;
  })

renews_new : {n : ℕ} {f : Slot → Slot} {h : Meaning → Meaning} {k : List Block → List Block} (d : ℕ)
    → Changing n f h k → Renews h d f
renews_new {n} {f} {h} {k} d changing = record {
  names = changing.within.names;
  means = changing.means;
  apart = λ s apart. ap (λ m. nat_eq m d) (changing.within.marks s) ∙ apart;
  low = λ s low. subst (λ m. m ≤ d) (sym (changing.within.marks s)) low;
}

renews_noted : {n : ℕ} {f : Slot → Slot} {h : Meaning → Meaning} {k : List Block → List Block} (d e : ℕ) → d < e
    → Changing n f h k → Renews h e (λ s. f (noted_slot d s))
renews_noted {n} {f} {h} {k} d e less changing = record {
  names = λ s. changing.within.names (noted_slot d s) ∙ noted_name (nat_eq s.mark d) d s;
  means = λ s. changing.means (noted_slot d s) ∙ ap h (noted_meaning (nat_eq s.mark d) d s);
  apart = λ s apart. ap (λ m. nat_eq m e) (changing.within.marks (noted_slot d s))
      ∙ noted_apart (nat_eq s.mark d) d e s less apart;
  low = λ s low. subst (λ m. m ≤ e) (sym (changing.within.marks (noted_slot d s)))
      (noted_low (nat_eq s.mark d) d e s less low);
}

-- what is kept of a block of this depth
abbrev MarkedAt : ℕ → List Slot → Branching → Type 0
MarkedAt d ss b =
    (b.count ≤ length ss) × AreUpTo d ss × AreListed d (numbers_of b.changes) (take b.count ss)
    × (without (is_marked d) (take b.count ss) + length b.changes ≤ b.count)

abbrev KeptAt : ℕ → List Slot → Branching → Type 0
KeptAt d ss b =
    MarkedAt d ss b × AreSettled d b (take b.count ss)
    × (without (is_recent d) (take b.count ss) + length b.recent ≤ b.count)

module _ (n : ℕ) (h : Meaning → Meaning) (g : Slot → Slot) (ss : List Slot) (b : Branching) (ps : List Branching)
    (ks : List Block) (kept : KeptAt (suc (length ps)) ss b) (free : is_one_of (numbers_of b.changes) n ≡ false)
    (renews : Renews h (suc (length ps)) g)
    (after : Follows (record { slots = modify g n (before b ss); blocks = ps }) (record {
      entries = at_number (with_meaning h) n (seen entry_in (before b ss));
      blocks = ks;
    })) where
  abbrev depth : ℕ
  depth = suc (length ps)

  abbrev base : List Slot
  base = take b.count ss

  at : take b.count (modify g n ss) ≡ modify g n base
  at = take_modify g b.count n ss

  behind : before b (modify g n ss) ≡ modify g n (before b ss)
  behind = ap (undone b.changes) at ∙ undone_apart b.changes g n base free

  unmarked : (k : Slot) → item_at n base ≡ Some k → nat_eq k.mark depth ≡ false
  unmarked k there = kept.0.2 n k there free

  now_unmarked : (k : Slot) → item_at n base ≡ Some k → nat_eq (g k).mark depth ≡ false
  now_unmarked k there = renews.apart k (unmarked k there)

  start_new : (k : Slot) → item_at n base ≡ Some k → start_in depth (g k) ≡ with_meaning h (start_in depth k)
  start_new k there = λ i. record {
    name = renews.names k i;
    meaning = (ap (λ t. cond t (g k).start (g k).meaning) (now_unmarked k there) ∙ renews.means k
        ∙ ap (λ t. h (cond t k.start k.meaning)) (sym (unmarked k there))) i;
  }

  end_new : (k : Slot) → item_at n base ≡ Some k → end_in depth (g k) ≡ with_meaning h (end_in depth k)
  end_new k there = λ i. record {
    name = renews.names k i;
    meaning = (ap (λ t. cond t (g k).ends (g k).meaning) (now_unmarked k there) ∙ renews.means k
        ∙ ap (λ t. h (cond t k.ends k.meaning)) (sym (unmarked k there))) i;
  }

  seen_new : (f : Slot → Entry) (xs : List Slot)
      → ((k : Slot) → item_at n xs ≡ Some k → f (g k) ≡ with_meaning h (f k))
      → seen f (modify g n xs) ≡ at_number (with_meaning h) n (seen f xs)
  seen_new f xs same =
      ap reverse (map_modify f g (with_meaning h) n xs same) ∙ reverse_modify (with_meaning h) n (map f xs)

  ends_new : (t : Bool) → ends_seen t (seen (end_in depth) (take b.count (modify g n ss)))
      ≡ option_map (λ ds. at_number (with_meaning h) n ds) (ends_seen t (seen (end_in depth) base))
  ends_new true = ap Some (ap (seen (end_in depth)) at ∙ seen_new (end_in depth) base end_new)
  ends_new false = refl

  settled_new : (k : Slot) → item_at n base ≡ Some k → IsSettled depth b n (g k)
  settled_new k there = (
    ap (λ t. cond t (g k).recent false) (now_unmarked k there),
    ap (λ t. cond t (with_restart (g k)) (g k)) (now_unmarked k there),
    λ even other. ap (λ t. cond t (with_end (cond b.ended (hull_meaning (g k).ends (g k).meaning) (g k).meaning)
        (g k)) (g k)) (now_unmarked k there),
  )

  now_marked : AreMarked (modify g n ss) b ps
  now_marked =
      let long = modify_long g n ss in
      let many = ap (without (is_marked depth)) at
      ∙ without_same (is_marked depth) g n base (λ k there. now_unmarked k there ∙ sym (unmarked k there)) in (
        subst (λ k. b.count ≤ k) (sym long) kept.0.0,
        items_modified (λ i k. k.mark ≤ depth) g n ss (λ i k away there. kept.0.1 i k there)
            (λ k there. renews.low k (kept.0.1 n k there)),
        subst (AreListed depth (numbers_of b.changes)) (sym at)
            (items_modified (λ i k. is_one_of (numbers_of b.changes) i ≡ false → nat_eq k.mark depth ≡ false) g n base
            (λ i k away there others. kept.0.2 i k there others) (λ k there others. now_unmarked k there)),
        subst (λ k. k + length b.changes ≤ b.count) (sym many) kept.0.3,
      )

  now_tracked : AreTracked (modify g n ss) (b ∷ ps)
  now_tracked =
      let many = ap (without (is_recent depth)) at
      ∙ without_same (is_recent depth) g n base (λ k there.
      ap (λ t. cond t (g k).recent false) (now_unmarked k there)
      ∙ ap (λ t. cond t k.recent false) (sym (unmarked k there))) in (
        now_marked,
        subst (AreSettled depth b) (sym at) (items_modified (λ i k. is_one_of b.recent i ≡ false
            → IsSettled depth b i k) g n base (λ i k away there others. kept.1 i k there others)
            (λ k there others. settled_new k there)),
        subst (λ k. k + length b.recent ≤ b.count) (sym many) kept.2,
        subst (λ k. AreTracked k ps) (sym behind) after.tracked,
      )

  -- the block around which it changes sees it at its beginning and at its ends
  pub lifted : Follows (record { slots = modify g n ss; blocks = b ∷ ps }) (record {
    entries = at_number (with_meaning h) n (seen entry_in ss);
    blocks = record {
      start = at_number (with_meaning h) n (block_in depth b ss).start;
      ends = option_map (λ ds. at_number (with_meaning h) n ds) (block_in depth b ss).ends;
    } ∷ ks;
  })
  lifted = record {
    entries = seen_new entry_in ss (λ k there. λ i. record { name = renews.names k i; meaning = renews.means k i });
    blocks = λ i. record {
      start = (ap (seen (start_in depth)) at ∙ seen_new (start_in depth) base start_new) i;
      ends = ends_new b.ended i;
    } ∷ (ap (λ xs. blocks_in xs ps) behind ∙ after.blocks) i;
    tracked = now_tracked;
  }

-- ---- it changes around some blocks

-- what is known of the blocks then
abbrev pub renewed : ℕ → (Meaning → Meaning) → (List Block → List Block) → ℕ → List Block → List Block
renewed zero h k n bs = k bs
renewed (suc a) h k n [] = []
renewed (suc a) h k n (b ∷ bs) = record {
  start = at_number (with_meaning h) n b.start;
  ends = option_map (λ ds. at_number (with_meaning h) n ds) b.ends;
} ∷ renewed a h k n bs

-- blocks that began with an entry that they do not have in their lists
abbrev AreFree : ℕ → List Branching → Type 0
AreFree n [] = Unit {0}
AreFree n (b ∷ bs) = IsOutside n b × AreFree n bs

free_of : (n : ℕ) (inner rest : List Branching) → AreOutside n (length inner) (inner ++ rest) → AreFree n inner
free_of n [] rest outside = tt
free_of n (b ∷ inner) rest outside = (outside.0, free_of n inner rest outside.1)

module _ (n : ℕ) (o : Branching) (bs : List Branching) where
  abbrev outer : ℕ
  outer = suc (length bs)

  -- the block around sees the same slot
  outer_item : (b : Branching) (ss : List Slot) → IsOutside n b
      → item_at n (take o.count (before b ss)) ≡ item_at n (take o.count ss)
  outer_item b ss free =
      item_cut o.count n (before b ss) ss
      (undone_item b.changes n (take b.count ss) free.1 ∙ item_within n b.count ss free.0)

  -- it has capacity for the entry
  room_by : (ss : List Slot) (x : Option Slot) → item_at n (take o.count ss) ≡ x → AreTracked ss (o ∷ bs)
      → HasRoomFor outer x o.count o.count o
  room_by ss None none tracked = tt
  room_by ss (Some s) is tracked = (
    λ new. list_room n s ss o bs tracked is new,
    λ idle. branch_room n s ss o bs tracked is idle,
  )

  pub room_in : (inner : List Branching) (ss : List Slot) (x : Option Slot) → item_at n (take o.count ss) ≡ x
      → AreTracked ss (inner ++ o ∷ bs) → AreFree n inner → HasRoomFor outer x o.count o.count o
  room_in [] ss x is tracked free = room_by ss x is tracked
  room_in (b ∷ inner) ss x is tracked free =
      room_in inner (before b ss) x (outer_item b ss free.0 ∙ is) tracked.3 free.1

  module _ (f : Slot → Slot) (h : Meaning → Meaning) (k : List Block → List Block)
      (changing : Changing n f h k) where
    -- what becomes of its slot, by what the block around has of it
    abbrev slot_by : Option Slot → Slot → Slot
    slot_by None s = f s
    slot_by (Some x) s = f (noted_slot outer s)

    renews_by : (x : Option Slot) (e : ℕ) → outer < e → Renews h e (slot_by x)
    renews_by None e less = renews_new e changing
    renews_by (Some s) e less = renews_noted outer e less changing

    by_one : (x : Option Slot) (ss : List Slot) → modify f n (noted_slots outer n x ss) ≡ modify (slot_by x) n ss
    by_one None ss = refl
    by_one (Some s) ss = both_modified f (noted_slot outer) n ss

    abbrev around : Option Slot → List Branching → List Branching
    around x inner = inner ++ noted_in outer n x o ∷ bs

    same_long : (x : Option Slot) (inner : List Branching) → length (around x inner) ≡ length (inner ++ o ∷ bs)
    same_long x [] = refl
    same_long x (b ∷ inner) = ap suc (same_long x inner)

    deeper : (x : Option Slot) (inner : List Branching) → outer < suc (length (around x inner))
    deeper x [] = omega arith
    deeper x (b ∷ inner) = let less = deeper x inner in omega arith

    innermost_by : (x : Option Slot) (ss : List Slot) → item_at n (take o.count ss) ≡ x
        → put_by f n (record { slots = ss; blocks = o ∷ bs })
        ≡ record { slots = modify (slot_by x) n ss; blocks = around x [] }
    innermost_by None ss none =
        ap (λ (t : Tracked). record { slots = modify f n t.slots; blocks = t.blocks }) (noted_not n ss o bs none)
    innermost_by (Some s) ss is =
        ap (λ (t : Tracked). record { slots = modify f n t.slots; blocks = t.blocks }) (noted_here n ss o bs s is)
        ∙ ap (λ xs. record { slots = xs; blocks = around (Some s) [] }) (both_modified f (noted_slot outer) n ss)

    pub follows_in : (inner : List Branching) (ss : List Slot) (x : Option Slot) → item_at n (take o.count ss) ≡ x
        → AreTracked ss (inner ++ o ∷ bs) → AreFree n inner
        → Follows (record { slots = modify (slot_by x) n ss; blocks = around x inner }) (record {
          entries = at_number (with_meaning h) n (seen entry_in ss);
          blocks = renewed (length inner) h k n (blocks_in ss (inner ++ o ∷ bs));
        })
    follows_in [] ss x is tracked free =
        subst (λ t. Follows t (record {
          entries = at_number (with_meaning h) n (seen entry_in ss);
          blocks = k (blocks_in ss (o ∷ bs));
        })) (innermost_by x ss is) (changing.moves (record { slots = ss; blocks = o ∷ bs }) tracked)
    follows_in (b ∷ inner) ss x is tracked free =
        let ps = around x inner in
        let size = same_long x inner in
        let rest = follows_in inner (before b ss) x (outer_item b ss free.0 ∙ is) tracked.3 free.1 in
        let ks = renewed (length inner) h k n (blocks_in (before b ss) (inner ++ o ∷ bs)) in
        subst (λ d. Follows (record { slots = modify (slot_by x) n ss; blocks = b ∷ ps }) (record {
          entries = at_number (with_meaning h) n (seen entry_in ss);
          blocks = record {
            start = at_number (with_meaning h) n (block_in (suc d) b ss).start;
            ends = option_map (λ ds. at_number (with_meaning h) n ds) (block_in (suc d) b ss).ends;
          } ∷ ks;
        })) size
        (lifted n h (slot_by x) ss b ps ks
        (subst (λ d. KeptAt (suc d) ss b) (sym size) (tracked.0, tracked.1, tracked.2))
        free.0.1 (renews_by x (suc (length ps)) (deeper x inner)) rest)

-- ---- an entry means something else, or its ends so far do

pub followed_as : {t : Tracked} {k l : Known} → k ≡ l → Follows t k → Follows t l
followed_as {t} same follows = subst (Follows t) same follows

pub changing_new : (n : ℕ) (m : Meaning) → Changing n (with_new m) (λ j. m) (λ bs. bs)
changing_new n m = record {
  within = new_within m;
  means = λ s. refl;
  moves = λ t tracked. put_follows n m t tracked;
}

around_new : (a n : ℕ) (m : Meaning) (bs : List Block) → renewed a (λ j. m) (λ ks. ks) n bs ≡ changed_around a m n bs
around_new zero n m [] = refl
around_new zero n m (b ∷ bs) = refl
around_new (suc a) n m [] = refl
around_new (suc a) n m (b ∷ bs) =
    ap (λ ks. record { start = changed_to m n b.start; ends = option_map (λ ds. changed_to m n ds) b.ends } ∷ ks)
    (around_new a n m bs)

pub as_new : (a n : ℕ) (m : Meaning) (k : Known) → record {
  entries = at_number (with_meaning (λ j. m)) n k.entries;
  blocks = renewed a (λ j. m) (λ bs. bs) n k.blocks;
} ≡ known_around a n m k
as_new a n m k = ap (λ bs. record { entries = changed_to m n k.entries; blocks = bs }) (around_new a n m k.blocks)

same_ends : (n : ℕ) (o : Option (List Entry))
    → option_map (λ ds. at_number (with_meaning (λ j. j)) n ds) o ≡ o
same_ends n None = refl
same_ends n (Some ds) = ap Some (not_changed n ds)

pub changing_ends : (n : ℕ) (g : Meaning → Meaning)
    → Changing n (with_ends g) (λ j. j) (λ bs. changed_ends g n bs)
changing_ends n g = record {
  within = ends_within g;
  means = λ s. refl;
  moves = λ t tracked. subst (λ es. Follows (put_by (with_ends g) n t) (record {
    entries = es;
    blocks = changed_ends g n (known_in t).blocks;
  })) (sym (not_changed n (known_in t).entries)) (ends_follow n g t tracked);
}

outer_ends : (a n : ℕ) (g : Meaning → Meaning) (bs : List Block)
    → renewed a (λ j. j) (λ ks. changed_ends g n ks) n bs ≡ ends_around a g n bs
outer_ends zero n g bs = refl
outer_ends (suc a) n g [] = refl
outer_ends (suc a) n g (b ∷ bs) =
    λ i. record { start = not_changed n b.start i; ends = same_ends n b.ends i } ∷ outer_ends a n g bs i

pub as_ends : (a n : ℕ) (g : Meaning → Meaning) (k : Known) → ◌≡◌ {A = Known} (record {
  entries = at_number (with_meaning (λ j. j)) n k.entries;
  blocks = renewed a (λ j. j) (λ bs. changed_ends g n bs) n k.blocks;
}) (record { entries = k.entries; blocks = ends_around a g n k.blocks })
as_ends a n g k = λ i. record { entries = not_changed n k.entries i; blocks = outer_ends a n g k.blocks i }

-- ---- the program's blocks

outside_long : (n a : ℕ) (bs : List Branching) → AreOutside n a bs → a < length bs
outside_long n a [] outside = absurd outside
outside_long n zero (b ∷ bs) outside = omega arith
outside_long n (suc a) (b ∷ bs) outside = let less = outside_long n a bs outside.1 in omega arith

-- there are as many blocks
pub outside_blocks : (n a : ℕ) (blocks : List code_branching.Branching) → AreOutside n a (branchings_from blocks)
    → a < length blocks
outside_blocks n a blocks outside =
    let less = outside_long n a (branchings_from blocks) outside in
    let long = branchings_long blocks in
    omega arith

more_room : (x : Option Slot) (d listed recent : ℕ) (b : Branching) → b.count ≤ listed → b.count ≤ recent
    → HasRoomFor d x b.count b.count b → HasRoomFor d x listed recent b
more_room None d listed recent b first second room = tt
more_room (Some s) d listed recent b first second room = (
  λ new. let less = room.0 new in omega arith,
  λ idle. let less = room.1 idle in omega arith,
)

same_apart : (p : ℕ → Option Meaning) (inner : List Branching) (b c : Branching) (bs : List Branching)
    → AreApart p (length inner) (inner ++ b ∷ bs) → AreApart p (length inner) (inner ++ c ∷ bs)
same_apart p [] b c bs apart = tt
same_apart p (k ∷ inner) b c bs apart = (apart.0, same_apart p inner b c bs apart.1)

-- one block among the others
apart_at : (place : ℕ) (blocks : List code_branching.Branching) (o : code_branching.Branching) → place < length blocks
    → o ≡ get_or blocks place o → blocks ≡ (take place blocks ++ o ∷ []) ++ drop (suc place) blocks
apart_at place [] o less found = absurd (omega arith)
apart_at zero (b ∷ blocks) o less found = ap (λ k. k ∷ blocks) (sym found)
apart_at (suc place) (b ∷ blocks) o less found =
    ap (λ ks. b ∷ ks) (apart_at place blocks o (omega arith) found)

set_at : (place : ℕ) (blocks : List code_branching.Branching) (o : code_branching.Branching) → place < length blocks
    → set blocks place o ≡ (take place blocks ++ o ∷ []) ++ drop (suc place) blocks
set_at place [] o less = absurd (omega arith)
set_at zero (b ∷ blocks) o less = refl
set_at (suc place) (b ∷ blocks) o less = ap (λ ks. b ∷ ks) (set_at place blocks o (omega arith))

branchings_both : (first second : List code_branching.Branching)
    → branchings_from (first ++ second) ≡ branchings_from second ++ branchings_from first
branchings_both first second =
    ap reverse (map-append branching_of first second)
    ∙ reverse-append (map branching_of first) (map branching_of second)

seen_at : (first second : List code_branching.Branching) (o : code_branching.Branching)
    → branchings_from ((first ++ o ∷ []) ++ second)
    ≡ branchings_from second ++ branching_of o ∷ branchings_from first
seen_at first second o =
    branchings_both (first ++ o ∷ []) second
    ∙ ap (λ ks. branchings_from second ++ ks) (branchings_more first o)

module _ (n a place : ℕ) (slots : List code_slot.Slot) (blocks : List code_branching.Branching)
    (o : code_branching.Branching) (less : place < length blocks) (found : o ≡ get_or blocks place o)
    (size : length blocks ≡ place + 1 + a) (tracked : BelongTogether slots blocks)
    (outside : AreOutside n a (branchings_from blocks)) where
  abbrev ss : List Slot
  ss = slots_from slots

  abbrev slot : Option Slot
  slot = item_at n (take o.count ss)

  abbrev rest : List Branching
  rest = branchings_from (take place blocks)

  abbrev inner : List Branching
  inner = branchings_from (drop (suc place) blocks)

  apart_seen : branchings_from blocks ≡ inner ++ branching_of o ∷ rest
  apart_seen =
      ap branchings_from (apart_at place blocks o less found)
      ∙ seen_at (take place blocks) (drop (suc place) blocks) o

  many : length inner ≡ a
  many =
      let long = branchings_long (drop (suc place) blocks) in
      let cut = length-drop (suc place) blocks in
      omega arith

  deep : place + 1 ≡ suc (length rest)
  deep =
      let long = branchings_long (take place blocks) in
      let cut = length-take place blocks in
      omega arith

  free : AreFree n inner
  free =
      free_of n inner (branching_of o ∷ rest)
      (subst (λ k. AreOutside n k (inner ++ branching_of o ∷ rest)) (sym many)
      (subst (AreOutside n a) apart_seen outside))

  all_tracked : AreTracked ss (inner ++ branching_of o ∷ rest)
  all_tracked = subst (AreTracked ss) apart_seen tracked

  pub has_room : HasRoomFor (place + 1) slot (vec_capacity o.changes) (vec_capacity o.recent) (branching_of o)
  has_room =
      subst (λ d. HasRoomFor d slot (vec_capacity o.changes) (vec_capacity o.recent) (branching_of o)) (sym deep)
      (more_room slot (suc (length rest)) (vec_capacity o.changes) (vec_capacity o.recent) (branching_of o) o.room
      o.recent_room (room_in n (branching_of o) rest inner ss slot refl all_tracked free))

  now_seen : (after : code_branching.Branching) (all : List code_branching.Branching) → all ≡ set blocks place after
      → branchings_from all ≡ inner ++ branching_of after ∷ rest
  now_seen after all is =
      ap branchings_from (is ∙ set_at place blocks after less)
      ∙ seen_at (take place blocks) (drop (suc place) blocks) after

  pub put_follows_around : {f : Slot → Slot} {h : Meaning → Meaning} {k : List Block → List Block}
      (changing : Changing n f h k) (first second : List Slot) (whole : List code_slot.Slot)
      (all : List code_branching.Branching) (after : code_branching.Branching)
      → first ≡ noted_slots (place + 1) n slot ss
      → branching_of after ≡ noted_in (place + 1) n slot (branching_of o)
      → second ≡ modify f n first → slots_from whole ≡ second → all ≡ set blocks place after
      → Follows (tracked_from whole all) (record {
        entries = at_number (with_meaning h) n (known_in (tracked_from slots blocks)).entries;
        blocks = renewed a h k n (known_in (tracked_from slots blocks)).blocks;
      })
  put_follows_around {f} {h} {k} changing first second whole all after noting block putting is put =
      let d = suc (length rest) in
      let x = branching_of o in
      let g = slot_by n x rest f h k changing slot in
      let changed = is ∙ putting ∙ ap (modify f n) (noting ∙ (λ i. noted_slots (deep i) n slot ss))
      ∙ by_one n x rest f h k changing slot ss in
      let now = now_seen after all put
      ∙ ap (λ y. inner ++ y ∷ rest) (block ∙ (λ i. noted_in (deep i) n slot x)) in
      let known : List Branching → ℕ → Known = λ bs c. record {
        entries = at_number (with_meaning h) n (seen entry_in ss);
        blocks = renewed c h k n (blocks_in ss bs);
      } in
      followed (known (branchings_from blocks) a) (λ i. record { slots = changed i; blocks = now i })
      (subst (λ bs. Follows (record { slots = modify g n ss; blocks = inner ++ noted_in d n slot x ∷ rest })
      (known bs a)) (sym apart_seen)
      (subst (λ c. Follows (record { slots = modify g n ss; blocks = inner ++ noted_in d n slot x ∷ rest })
      (known (inner ++ x ∷ rest) c)) many
      (follows_in n x rest f h k changing inner ss slot refl all_tracked free)))

  -- the inner blocks are as they were
  pub stays_around : (after : code_branching.Branching) (all : List code_branching.Branching)
      → all ≡ set blocks place after → StayApart a (branchings_from blocks) a (branchings_from all)
  stays_around after all put =
      subst (λ bs. StayApart a bs a (branchings_from all)) (sym apart_seen)
      (subst (λ bs. StayApart a (inner ++ branching_of o ∷ rest) a bs) (sym (now_seen after all put))
      (subst (λ k. StayApart k (inner ++ branching_of o ∷ rest) k (inner ++ branching_of after ∷ rest)) many
      (λ p. same_apart p inner (branching_of o) (branching_of after) rest)))

-- ---- the innermost block

none_long : (bs : List Branching) → length bs ≡ 0 → bs ≡ []
none_long [] none = refl
none_long (b ∷ bs) none = absurd (omega arith)

-- where there is no block
pub noted_outside : (n : ℕ) (slots : List code_slot.Slot) (blocks : List code_branching.Branching)
    → length blocks ≡ 0 → tracked_from slots blocks ≡ noted n (slots_from slots) (branchings_from blocks)
noted_outside n slots [] none = refl
noted_outside n slots (b ∷ blocks) none = absurd (omega arith)

module _ (n place : ℕ) (slots : List code_slot.Slot) (blocks : List code_branching.Branching)
    (o : code_branching.Branching) (less : place < length blocks) (found : o ≡ get_or blocks place o)
    (size : length blocks ≡ place + 1 + 0) (tracked : BelongTogether slots blocks) where
  abbrev ss_here : List Slot
  ss_here = slots_from slots

  abbrev rest_here : List Branching
  rest_here = branchings_from (take place blocks)

  outside_none : (bs : List Branching) → 0 < length bs → AreOutside n 0 bs
  outside_none [] long = absurd (omega arith)
  outside_none (b ∷ bs) long = tt

  outside_here : AreOutside n 0 (branchings_from blocks)
  outside_here = let long = branchings_long blocks in outside_none (branchings_from blocks) (omega arith)

  none_inner : branchings_from (drop (suc place) blocks) ≡ []
  none_inner =
      none_long (branchings_from (drop (suc place) blocks))
      (many n 0 place slots blocks o less found size tracked outside_here)

  pub room_here : HasRoomFor (place + 1) (item_at n (take o.count ss_here)) (vec_capacity o.changes)
      (vec_capacity o.recent) (branching_of o)
  room_here = has_room n 0 place slots blocks o less found size tracked outside_here

  pub noted_inside : (whole : List code_slot.Slot) (all : List code_branching.Branching)
      (after : code_branching.Branching)
      → slots_from whole ≡ noted_slots (place + 1) n (item_at n (take o.count ss_here)) ss_here
      → branching_of after ≡ noted_in (place + 1) n (item_at n (take o.count ss_here)) (branching_of o)
      → all ≡ set blocks place after
      → tracked_from whole all ≡ noted n ss_here (branchings_from blocks)
  noted_inside whole all after noting block put =
      let slot = item_at n (take o.count ss_here) in
      let d = suc (length rest_here) in
      let down = deep n 0 place slots blocks o less found size tracked outside_here in
      let changed = noting ∙ (λ i. noted_slots (down i) n slot ss_here) in
      let now = now_seen n 0 place slots blocks o less found size tracked outside_here after all put
      ∙ (λ i. none_inner i ++ (block ∙ (λ j. noted_in (down j) n slot (branching_of o))) i ∷ rest_here) in
      let seen = apart_seen n 0 place slots blocks o less found size tracked outside_here
      ∙ (λ i. none_inner i ++ branching_of o ∷ rest_here) in
      (λ i. record { slots = changed i; blocks = now i })
      ∙ sym (innermost_noted n ss_here (branching_of o) rest_here slot refl)
      ∙ ap (noted n ss_here) (sym seen)
