-- What the innermost block has, where nothing changed in it.
use Rattle.std.proofs.Common.{◌≡◌, ℕ, zero, suc, ◌<◌, ◌≤◌, ◌+◌, ◌-◌, Bool, true, false, cond, List, [], ◌∷◌, ◌++◌}
use Rattle.std.proofs.Common.{length, take, drop, reverse, map, option_map, ◌⊎◌, inl, inr, Option, Some, None}
use Rattle.std.proofs.Common.{get_or, refl, sym, ap, subst, arith, ◌∙◌, nat_eq}
use Rattle.std.specs.Option.{is_some}
use Rattle.std.proofs.lemmas.List.{length-map, length-reverse, length-take, reverse-reverse, drop_more, drop_all}
use Rattle.std.proofs.lemmas.Bool.{eqb-true}
use Rattle.scalar_ranges.specs.declared.slots.Slot as code_slot
use Rattle.scalar_ranges.specs.declared.slots.Branching as code_branching
use Rattle.scalar_ranges.specs.declared.slots.Change as code_change
use Rattle.scalar_ranges.specs.declared.scope.Meaning as code_meaning
use Rattle.scalar_ranges.specs.declared.changes.Tracked as code_tracked
use Rattle.scalar_ranges.specs.Environments.{item_at}
use Rattle.scalar_ranges.specs.Moves.{end_of, is_one_of, Known}
use Rattle.scalar_ranges.specs.Entries.{Meaning, Entry}
use Rattle.scalar_ranges.specs.Changes.{Slot, Branching, entry_in, start_in, end_in, seen, ends_seen, block_in, before}
use Rattle.scalar_ranges.specs.Changes.{Change, AreTracked, numbers_of, blocks_in}
use Rattle.scalar_ranges.specs.ChangeViews.{meaning_of, slots_from, changes_from, branching_of, branchings_from}
use Rattle.scalar_ranges.specs.ChangeViews.{BelongTogether}
use Rattle.scalar_ranges.specs.TrackedViews.{tracked_of, known_by}
use Rattle.scalar_ranges.specs.declared.deferred.Stage.{Stage}
use Rattle.scalar_ranges.specs.declared.deferred.Stage.TheVariants as stages
use Rattle.scalar_ranges.specs.Lefts.{IsStillFor}
use Rattle.scalar_ranges.specs.Deferring.{AreAlike, AreNone, AreStill, IsStill}
use Rattle.scalar_ranges.proofs.Following.{end_is, map_reversed}
use Rattle.scalar_ranges.proofs.Numbered.{reverse_cons}
use Rattle.scalar_ranges.proofs.Noting.{innermost_seen}
use Rattle.scalar_ranges.proofs.Ending.{undone_long}
use Rattle.scalar_ranges.proofs.Postponing.{AreWhole, HasWhole, EndsShort, AreShort}

none_by : (t : Bool) (p : ℕ → Option Meaning) (c : Change) (cs : List Change) (i : ℕ) → nat_eq c.number i ≡ t
    → cond t true (is_one_of (numbers_of cs) i) ≡ true → p c.number ≡ None
    → (is_one_of (numbers_of cs) i ≡ true → p i ≡ None) → p i ≡ None
none_by true p c cs i test listed here others = ap p (sym (eqb-true c.number i test)) ∙ here
none_by false p c cs i test listed here others = others listed

pub none_of : (p : ℕ → Option Meaning) (i : ℕ) (cs : List Change) → AreNone p cs → is_one_of (numbers_of cs) i ≡ true
    → p i ≡ None
none_of p i [] none listed = absurd (cc)
none_of p i (c ∷ cs) none listed =
    none_by (nat_eq c.number i) p c cs i refl listed none.0 (λ h. none_of p i cs none.1 h)

item_last : {A : Type 0} (xs : List A) (y : A) → item_at (length xs) (xs ++ y ∷ []) ≡ Some y
item_last [] y = refl
item_last (x ∷ xs) y = item_last xs y

item_kept : {A : Type 0} (i : ℕ) (xs : List A) (x y : A) → item_at i xs ≡ Some x → item_at i (xs ++ y ∷ []) ≡ Some x
item_kept i [] x y is = absurd (cc)
item_kept zero (k ∷ xs) x y is = is
item_kept (suc i) (k ∷ xs) x y is = item_kept i xs x y is

-- entries that the innermost block does not have in its list, or of which nothing is put off
alike_by : (p : ℕ → Option Meaning) (d i : ℕ) (s : Slot) → (p i ≡ None) ⊎ (nat_eq s.mark d ≡ false)
    → (p i ≡ None) ⊎ (end_in d s ≡ entry_in s)
alike_by p d i s (inl none) = inl none
alike_by p d i s (inr apart) = inr (ap (λ t. record { name = s.name; meaning = cond t s.ends s.meaning }) apart)

alike_in : (p : ℕ → Option Meaning) (d : ℕ) (rs : List Slot)
    → ((i : ℕ) (s : Slot) → item_at i (reverse rs) ≡ Some s → (p i ≡ None) ⊎ (nat_eq s.mark d ≡ false))
    → AreAlike p (map (end_in d) rs) (map entry_in rs)
alike_in p d [] all = tt
alike_in p d (s ∷ rs) all =
    let at : item_at (length (map (end_in d) rs)) (reverse (s ∷ rs)) ≡ Some s =
    ap (item_at (length (map (end_in d) rs))) (reverse_cons s rs)
    ∙ ap (λ k. item_at k (reverse rs ++ s ∷ [])) (length-map rs (end_in d) ∙ sym (length-reverse rs))
    ∙ item_last (reverse rs) s in (
      alike_by p d (length (map (end_in d) rs)) s (all (length (map (end_in d) rs)) s at),
      alike_in p d rs (λ i k is. all i k (ap (item_at i) (reverse_cons s rs) ∙ item_kept i (reverse rs) k s is)),
    )

listed_or : (t : Bool) (p : ℕ → Option Meaning) (i d : ℕ) (s : Slot) (cs : List Change)
    → is_one_of (numbers_of cs) i ≡ t → AreNone p cs
    → (is_one_of (numbers_of cs) i ≡ false → nat_eq s.mark d ≡ false) → (p i ≡ None) ⊎ (nat_eq s.mark d ≡ false)
listed_or true p i d s cs test none apart = inl (none_of p i cs none test)
listed_or false p i d s cs test none apart = inr (apart test)

still_by : (t : Bool) (p : ℕ → Option Meaning) (ss : List Slot) (b : Branching) (bs : List Branching)
    → AreTracked ss (b ∷ bs) → AreNone p b.changes
    → AreStill p (ends_seen t (seen (end_in (suc (length bs))) (take b.count ss)))
    (end_of (block_in (suc (length bs)) b ss) (seen entry_in ss))
still_by false p ss b bs tracked none = tt
still_by true p ss b bs tracked none =
    let d = suc (length bs) in
    let base = take b.count ss in
    let rs = reverse base in
    let all = alike_in p d rs (λ i s is. listed_or (is_one_of (numbers_of b.changes) i) p i d s b.changes refl none
    (tracked.0.2 i s (ap (item_at i) (sym (reverse-reverse base)) ∙ is))) in
    subst (λ es. AreAlike p (seen (end_in d) base) es) (sym (end_is d b ss tracked.0.0))
    (subst (λ es. AreAlike p (seen (end_in d) base) es) (sym (map_reversed entry_in base))
    (subst (λ ds. AreAlike p ds (map entry_in rs)) (sym (map_reversed (end_in d) base)) all))

-- Of what the innermost block changed nothing is put off.
pub still_is : {blocks lent : List code_branching.Branching} {b : code_branching.Branching}
    (p : ℕ → Option Meaning) (slots : List code_slot.Slot) → lent ≡ blocks → 0 < length lent
    → b ≡ get_or lent (length lent - 1) b → BelongTogether slots blocks → AreNone p (changes_from b.changes.items)
    → IsStill p (seen entry_in (slots_from slots)) (blocks_in (slots_from slots) (branchings_from blocks))
still_is {blocks} {lent} {b} p slots same some last tracked none =
    let ss = slots_from slots in
    let rest = take (length blocks - 1) blocks in
    let inner = innermost_seen blocks lent b (length blocks) same some last refl in
    subst (λ bs. IsStill p (seen entry_in ss) (blocks_in ss bs)) (sym inner.seen)
    (still_by b.ended p ss (branching_of b) (branchings_from rest) (subst (AreTracked ss) inner.seen tracked) none)

whole_by : (t : Bool) (ss : List Slot) (b : Branching) (bs : List Branching) → AreTracked ss (b ∷ bs)
    → AreWhole (ends_seen t (seen (end_in (suc (length bs))) (take b.count ss)))
    (end_of (block_in (suc (length bs)) b ss) (seen entry_in ss))
whole_by false ss b bs tracked = tt
whole_by true ss b bs tracked =
    let d = suc (length bs) in
    let base = take b.count ss in
    length-reverse (map (end_in d) base) ∙ length-map base (end_in d)
    ∙ sym (length-map base entry_in) ∙ sym (length-reverse (map entry_in base))
    ∙ ap length (sym (end_is d b ss tracked.0.0))

starts_short : (ss : List Slot) (b : Branching) (bs : List Branching) → AreTracked ss (b ∷ bs)
    → length (block_in (suc (length bs)) b ss).start ≤ length (seen entry_in ss)
starts_short ss b bs tracked =
    let d = suc (length bs) in
    let base = take b.count ss in
    let first = length-reverse (map (start_in d) base) ∙ length-map base (start_in d) in
    let cut = length-take b.count ss in
    let all = length-reverse (map entry_in ss) ∙ length-map ss entry_in in
    omega arith

whole_in : (ss : List Slot) (bs : List Branching) → AreTracked ss bs
    → HasWhole (seen entry_in ss) (blocks_in ss bs)
whole_in ss [] tracked = tt
whole_in ss (b ∷ bs) tracked = (whole_by b.ended ss b bs tracked, starts_short ss b bs tracked)

-- The ends of the innermost block are as many as it began with.
pub has_whole : (t : code_tracked.Tracked) → HasWhole (known_by t).entries (known_by t).blocks
has_whole t = whole_in (tracked_of t).slots (tracked_of t).blocks t.tracked

seen_long : (f : Slot → Entry) (ss : List Slot) → length (seen f ss) ≡ length ss
seen_long f ss = length-reverse (map f ss) ∙ length-map ss f

ends_short : (t : Bool) (size : ℕ) (ds : List Entry) → length ds ≤ size → EndsShort size (ends_seen t ds)
ends_short true size ds short = short
ends_short false size ds short = tt

short_in : (size : ℕ) (ss : List Slot) (bs : List Branching) → length ss ≤ size → AreShort size (blocks_in ss bs)
short_in size ss [] least = tt
short_in size ss (b ∷ bs) least =
    let d = suc (length bs) in
    let base = take b.count ss in
    let cut = length-take b.count ss in
    let first = seen_long (start_in d) base in
    let last = seen_long (end_in d) base in
    let back = undone_long b.changes base in (
      (omega arith),
      ends_short b.ended size (seen (end_in d) base) (omega arith),
      short_in size (before b ss) bs (omega arith),
    )

-- No block began with more, nor has more at its ends.
pub are_short : (t : code_tracked.Tracked) → AreShort (length (known_by t).entries) (known_by t).blocks
are_short t =
    let ss = (tracked_of t).slots in
    let long = seen_long entry_in ss in
    short_in (length (seen entry_in ss)) ss (tracked_of t).blocks (omega arith)

pub still_for : (s : Stage) (p : ℕ → Option Meaning) (k : Known) → IsStill p k.entries k.blocks
    → IsStillFor s p k.entries k.blocks
still_for stages.Nothing p k still = tt
still_for (stages.Going f) p k still = still
still_for (stages.Ended f) p k still = still
still_for (stages.Around f a) p k still = still
still_for (stages.EndedAround f a) p k still = tt

-- ---- a loop over the changes

pub none_step : (p : ℕ → Option Meaning) (cs : List code_change.Change) (i : ℕ) (c : code_change.Change)
    → i < length cs → c ≡ get_or cs i c → p c.number ≡ None
    → (AreNone p (changes_from (drop i cs)) → AreNone p (changes_from cs))
    → AreNone p (changes_from (drop (i + 1) cs)) → AreNone p (changes_from cs)
none_step p cs i c less found here so_far others =
    so_far (subst (λ ks. AreNone p (changes_from ks))
    (ap (λ k. k ∷ drop (i + 1) cs) found ∙ sym (drop_more cs i c less)) (here, others))

pub none_stop : (p : ℕ → Option Meaning) (cs : List code_change.Change) (i : ℕ) → length cs ≤ i
    → (AreNone p (changes_from (drop i cs)) → AreNone p (changes_from cs)) → AreNone p (changes_from cs)
none_stop p cs i least so_far = so_far (subst (λ ks. AreNone p (changes_from ks)) (sym (drop_all i cs least)) tt)

pub nothing_of : (t : Bool) (o : Option code_meaning.Meaning) (u : Option Meaning) → t ≡ false
    → t ≡ is_some o → option_map meaning_of o ≡ u → u ≡ None
nothing_of t None u none is same = sym same
nothing_of t (Some m) u none is same = absurd (cc)
