-- Declarations that are made and left, by the lists of changes, and then all moves.
use Rattle.std.proofs.Common.{◌≡◌, ℕ, zero, suc, ◌+◌, ◌<◌, ◌≤◌, true, false, List, [], ◌∷◌, ◌++◌, length, map}
use Rattle.std.proofs.Common.{reverse, take, cond, nat_eq, Some, refl, sym, ap, subst, arith, ◌∙◌}
use Rattle.std.proofs.lemmas.List.{take-append-le, take-take, take-map, length-take-le, length-map, length-reverse}
use Rattle.std.proofs.lemmas.List.{map-append, reverse-append}
use Rattle.std.proofs.lemmas.Bool.{eq-eqb}
use Rattle.scalar_ranges.specs.Entries.{Entry}
use Rattle.scalar_ranges.specs.Environments.{item_at}
use Rattle.scalar_ranges.specs.Moves.{outermost, begun_with}
use Rattle.scalar_ranges.specs.Changes.{Slot, Branching, Tracked, entry_in, start_in, end_in, undone, seen, ends_seen}
use Rattle.scalar_ranges.specs.Changes.{blocks_in, known_in, numbers_of, AreListed, without, is_marked, is_recent}
use Rattle.scalar_ranges.specs.Changes.{AreSettled, AreTracked, marked, touched}
use Rattle.scalar_ranges.specs.Changes.{fresh, declared, cut, Follows, ListsHold}
use Rattle.scalar_ranges.proofs.Numbered.{reverse_take, item_taken}
use Rattle.scalar_ranges.proofs.Rows.{one_longer}
use Rattle.scalar_ranges.proofs.Counting.{fewer}
use Rattle.scalar_ranges.proofs.Following.{put_follows, begun_follows, next_follows, left_tracked}
use Rattle.scalar_ranges.proofs.Ending.{end_follows}
use Rattle.scalar_ranges.proofs.Components.{start_follows, component_follows}

-- the blocks where the slots that they began with are the same
same_blocks : (ks ss : List Slot) (b : Branching) (bs : List Branching) → take b.count ks ≡ take b.count ss
    → blocks_in ks (b ∷ bs) ≡ blocks_in ss (b ∷ bs)
same_blocks ks ss b bs same =
    let d = suc (length bs) in
    λ i. record { start = seen (start_in d) (same i); ends = ends_seen b.ended (seen (end_in d) (same i)) }
    ∷ blocks_in (undone b.changes (same i)) bs

-- what holds of each item of a list and of one more
items_more : {A : Type 0} (P : A → Type 0) (xs : List A) (x : A)
    → ((i : ℕ) (y : A) → item_at i xs ≡ Some y → P y) → P x → (i : ℕ) (y : A) → item_at i (xs ++ x ∷ []) ≡ Some y
    → P y
items_more P [] x all new zero y is = let same : x ≡ y = cc in subst P same new
items_more P [] x all new (suc i) y is = absurd (cc)
items_more P (z ∷ xs) x all new zero y is = all 0 y is
items_more P (z ∷ xs) x all new (suc i) y is = items_more P xs x (λ k w there. all (suc k) w there) new i y is

pub declared_tracked : (e : Entry) (ss : List Slot) (bs : List Branching) → AreTracked ss bs
    → AreTracked (ss ++ fresh e ∷ []) bs
declared_tracked e ss [] tracked =
    items_more (λ (s : Slot). s.mark ≤ 0) ss (fresh e) tracked (omega arith)
declared_tracked e ss (b ∷ bs) tracked =
    let same = take-append-le b.count ss (fresh e ∷ []) tracked.0.0 in
    let long = one_longer ss (fresh e) in
    let enough = tracked.0.0 in (
      (
        omega arith,
        items_more (λ (s : Slot). s.mark ≤ suc (length bs)) ss (fresh e) tracked.0.1 (omega arith),
        subst (AreListed (suc (length bs)) (numbers_of b.changes)) (sym same) tracked.0.2,
        subst (λ js. without (is_marked (suc (length bs))) js + length b.changes ≤ b.count) (sym same) tracked.0.3,
      ),
      subst (AreSettled (suc (length bs)) b) (sym same) tracked.1,
      subst (λ js. without (is_recent (suc (length bs))) js + length b.recent ≤ b.count) (sym same) tracked.2,
      subst (λ js. AreTracked (undone b.changes js) bs) (sym same) tracked.3,
    )

declared_blocks : (e : Entry) (ss : List Slot) (bs : List Branching) → AreTracked ss bs
    → blocks_in (ss ++ fresh e ∷ []) bs ≡ blocks_in ss bs
declared_blocks e ss [] tracked = refl
declared_blocks e ss (b ∷ bs) tracked =
    same_blocks (ss ++ fresh e ∷ []) ss b bs (take-append-le b.count ss (fresh e ∷ []) tracked.0.0)

pub declared_follows : (e : Entry) (t : Tracked) → AreTracked t.slots t.blocks
    → Follows (declared e t) (record { entries = e ∷ (known_in t).entries; blocks = (known_in t).blocks })
declared_follows e t tracked = record {
  entries = ap reverse (map-append entry_in t.slots (fresh e ∷ []))
      ∙ reverse-append (map entry_in t.slots) (e ∷ []);
  blocks = declared_blocks e t.slots t.blocks tracked;
  tracked = declared_tracked e t.slots t.blocks tracked;
}

cut_tracked : (count : ℕ) (ss : List Slot) (bs : List Branching) → AreTracked ss bs
    → begun_with (blocks_in ss bs) ≤ count
    → (blocks_in (take count ss) bs ≡ blocks_in ss bs) × AreTracked (take count ss) bs
cut_tracked count ss [] tracked least = (refl, λ i s is. tracked i s (item_taken count i ss s is))
cut_tracked count ss (b ∷ bs) tracked least =
    let begun = take b.count ss in
    let long = length-reverse (map (start_in (suc (length bs))) begun)
    ∙ length-map begun (start_in (suc (length bs))) ∙ length-take-le b.count ss tracked.0.0 in
    let low : b.count ≤ count = omega arith in
    (same_blocks (take count ss) ss b bs (take-take b.count count ss low), left_tracked count ss b bs low tracked)

pub cut_follows : (count : ℕ) (t : Tracked) → AreTracked t.slots t.blocks → begun_with (known_in t).blocks ≤ count
    → Follows (cut count t) (record { entries = outermost count (known_in t).entries; blocks = (known_in t).blocks })
cut_follows count t tracked least =
    let both = cut_tracked count t.slots t.blocks tracked least in
    record {
      entries = ap reverse (sym (take-map entry_in count t.slots)) ∙ reverse_take count (map entry_in t.slots);
      blocks = both.0;
      tracked = both.1;
    }

pub list_room : (n : ℕ) (s : Slot) (ss : List Slot) (b : Branching) (bs : List Branching) → AreTracked ss (b ∷ bs)
    → item_at n (take b.count ss) ≡ Some s → nat_eq s.mark (suc (length bs)) ≡ false → length b.changes < b.count
list_room n s ss b bs tracked is test =
    let d = suc (length bs) in
    let less = fewer (is_marked d) (marked d) n (take b.count ss) s is test (eq-eqb d d refl) in
    let room = tracked.0.3 in
    omega arith

pub branch_room : (n : ℕ) (s : Slot) (ss : List Slot) (b : Branching) (bs : List Branching) → AreTracked ss (b ∷ bs)
    → item_at n (take b.count ss) ≡ Some s → is_recent (suc (length bs)) s ≡ false → length b.recent < b.count
branch_room n s ss b bs tracked is test =
    let d = suc (length bs) in
    let less = fewer (is_recent d) (λ k. touched (marked d k)) n (take b.count ss) s is test
    (ap (λ t. cond t true false) (eq-eqb d d refl)) in
    let room = tracked.2 in
    omega arith

pub lists_hold : ListsHold
lists_hold = record {
  changing = put_follows;
  excluding = start_follows;
  beginning = begun_follows false;
  beginning_par = begun_follows true;
  going_on = λ t tracked. next_follows t.slots t.blocks tracked;
  ending = λ t tracked. end_follows t.slots t.blocks tracked;
  components = λ ns t tracked. component_follows ns t.slots t.blocks tracked;
  declaring = declared_follows;
  leaving = cut_follows;
  room = list_room;
  branch_room = branch_room;
}
