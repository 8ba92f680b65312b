-- What is kept where a list is put off around the innermost blocks.
use Rattle.std.proofs.Common.{◌≡◌, ℕ, zero, suc, ◌<◌, ◌≤◌, ◌-◌, Bool, true, false, cond, List, [], ◌∷◌, length, refl}
use Rattle.std.proofs.Common.{sym, ap, subst, arith, ◌∙◌, nat_eq, Option, Some, None, option_map, ◌⊎◌, inl, inr}
use Rattle.std.proofs.Common.{take, map}
use Rattle.std.proofs.lemmas.Bool.{eqb-true, cases_lt}
use Rattle.scalar_ranges.specs.declared.changes.Tracked as code_tracked
use Rattle.scalar_ranges.specs.declared.deferred.Left as code_left
use Rattle.scalar_ranges.specs.declared.deferred.Stage.{Stage}
use Rattle.scalar_ranges.specs.declared.deferred.Stage.TheVariants as stages
use Rattle.scalar_ranges.specs.declared.slots.Form.{Form}
use Rattle.scalar_ranges.specs.Entries.{Meaning, Entry}
use Rattle.scalar_ranges.specs.Environments.{item_at}
use Rattle.scalar_ranges.specs.Moves.{is_one_of}
use Rattle.scalar_ranges.specs.MoveLaws.{meaning_at}
use Rattle.scalar_ranges.specs.Changes.{Slot, Change, Branching, Tracked, modify, entry_in, start_in, end_in, seen}
use Rattle.scalar_ranges.specs.Changes.{ends_seen, before, blocks_in, numbers_of, AreTracked, begun_block}
use Rattle.scalar_ranges.specs.Changes.{IsOutside, AreOutside}
use Rattle.scalar_ranges.specs.TrackedViews.{tracked_of, known_by}
use Rattle.scalar_ranges.specs.Deferring.{AreNone, AreApart, StayApart, is_inside}
use Rattle.scalar_ranges.specs.Lefts.{left_at, with_mark, IsKeptApart, turned_stage, ended_stage, begun_stage}
use Rattle.scalar_ranges.proofs.Numbered.{reverse_meaning, item_mapped}
use Rattle.scalar_ranges.proofs.SlotLoops.{item_within, meaning_seen}
use Rattle.scalar_ranges.proofs.Around.{undone_item}
use Rattle.scalar_ranges.proofs.Fitting.{some_of}
use Rattle.scalar_ranges.proofs.Postponing.{EndsMean, MeansSame}
use Rattle.scalar_ranges.proofs.Standing.{none_of}
use Rattle.scalar_ranges.proofs.Staying.{fewer_apart}
use Rattle.scalar_ranges.proofs.LeftLists.{left_other, left_dead, item_there}

pub kept_if : (s : Stage) (p q : ℕ → Option Meaning) (bs cs : List Branching)
    → ((a : ℕ) → AreApart p (suc a) bs → AreApart q (suc a) cs) → IsKeptApart s p bs → IsKeptApart s q cs
kept_if stages.Nothing p q bs cs stays kept = tt
kept_if (stages.Going f) p q bs cs stays kept = tt
kept_if (stages.Ended f) p q bs cs stays kept = tt
kept_if (stages.Around f a) p q bs cs stays kept = stays a kept
kept_if (stages.EndedAround f a) p q bs cs stays kept = stays a kept

-- where a branch ends, or a component
pub kept_next : (s : Stage) (p : ℕ → Option Meaning) (bs cs : List Branching) → ((a : ℕ) → StayApart a bs a cs)
    → IsKeptApart s p bs → IsKeptApart s p cs
kept_next s p bs cs stays kept = kept_if s p p bs cs (λ a apart. stays (suc a) p apart) kept

turned_to : (t : Bool) (f : Form) (p : ℕ → Option Meaning) (cs : List Branching)
    → IsKeptApart (turned_stage t (stages.Ended f)) p cs
turned_to true f p cs = tt
turned_to false f p cs = tt

pub kept_turned : (t : Bool) (s : Stage) (p : ℕ → Option Meaning) (bs cs : List Branching)
    → ((a : ℕ) → StayApart a bs a cs) → IsKeptApart s p bs → IsKeptApart (turned_stage t s) p cs
kept_turned t stages.Nothing p bs cs stays kept = tt
kept_turned t (stages.Going f) p bs cs stays kept = tt
kept_turned t (stages.Ended f) p bs cs stays kept = turned_to t f p cs
kept_turned t (stages.Around f a) p bs cs stays kept = stays (suc a) p kept
kept_turned t (stages.EndedAround f a) p bs cs stays kept = stays (suc a) p kept

-- ---- a block ends

ended_to : (t : Bool) (f : Form) (p : ℕ → Option Meaning) (cs : List Branching)
    → IsKeptApart (ended_stage t (stages.Ended f)) p cs
ended_to true f p cs = tt
ended_to false f p cs = tt

pub kept_ended : (t : Bool) (s : Stage) (p : ℕ → Option Meaning) (bs cs : List Branching)
    → ((a : ℕ) → StayApart (suc a) bs a cs) → IsKeptApart s p bs → IsKeptApart (ended_stage t s) p cs
kept_ended t stages.Nothing p bs cs stays kept = tt
kept_ended t (stages.Going f) p bs cs stays kept = tt
kept_ended t (stages.Ended f) p bs cs stays kept = ended_to t f p cs
kept_ended t (stages.Around f zero) p bs cs stays kept = tt
kept_ended t (stages.Around f (suc a)) p bs cs stays kept = stays (suc a) p kept
kept_ended t (stages.EndedAround f zero) p bs cs stays kept = tt
kept_ended t (stages.EndedAround f (suc a)) p bs cs stays kept = stays (suc a) p kept

fewer_around : (t : Bool) (f : Form) (a : ℕ) → 0 < a
    → stages.Around f (a - 1) ≡ ended_stage t (stages.Around f a)
fewer_around t f zero some = absurd (omega arith)
fewer_around t f (suc a) some = let less : suc a - 1 ≡ a = omega arith in ap (stages.Around f) less

-- there was a further block around the innermost one
pub one_fewer : (t : Bool) (f : Form) (a : ℕ) → nat_eq a 0 ≡ false
    → stages.Around f (a - 1) ≡ ended_stage t (stages.Around f a)
one_fewer t f a some = fewer_around t f a (some_of some)

fewer_ended : (t : Bool) (f : Form) (a : ℕ) → 0 < a
    → stages.EndedAround f (a - 1) ≡ ended_stage t (stages.EndedAround f a)
fewer_ended t f zero some = absurd (omega arith)
fewer_ended t f (suc a) some = let less : suc a - 1 ≡ a = omega arith in ap (stages.EndedAround f) less

pub one_fewer_ended : (t : Bool) (f : Form) (a : ℕ) → nat_eq a 0 ≡ false
    → stages.EndedAround f (a - 1) ≡ ended_stage t (stages.EndedAround f a)
one_fewer_ended t f a some = fewer_ended t f a (some_of some)

-- ---- a block begins behind the one that has ended

inside_by : (ss : List Slot) (bs : List Branching) → is_inside (blocks_in ss bs) ≡ true → (p : ℕ → Option Meaning)
    → AreApart p 0 bs
inside_by ss [] inside p = absurd (cc)
inside_by ss (b ∷ bs) inside p = tt

pub begun_apart : (s u : Stage) (p q : ℕ → Option Meaning) (ended : Bool) (t : Tracked) → begun_stage s ≡ Some u
    → is_inside (blocks_in t.slots t.blocks) ≡ true → ((i : ℕ) → length t.slots ≤ i → q i ≡ None)
    → ((i : ℕ) → p i ≡ None → q i ≡ None) → IsKeptApart s p t.blocks
    → IsKeptApart u q (begun_block ended t ∷ t.blocks)
begun_apart stages.Nothing u p q ended t is inside none fewer kept = absurd (cc)
begun_apart (stages.Ended f) u p q ended t is inside none fewer kept =
    let same : stages.EndedAround f 0 ≡ u = cc in
    subst (λ v. IsKeptApart v q (begun_block ended t ∷ t.blocks)) same
    ((tt, none), inside_by t.slots t.blocks inside q)
begun_apart (stages.EndedAround f a) u p q ended t is inside none fewer kept =
    let same : stages.EndedAround f (suc a) ≡ u = cc in
    subst (λ v. IsKeptApart v q (begun_block ended t ∷ t.blocks)) same
    ((tt, none), fewer_apart p q (suc a) t.blocks fewer kept)
begun_apart (stages.Going f) u p q ended t is inside none fewer kept =
    let same : stages.Around f 0 ≡ u = cc in
    subst (λ v. IsKeptApart v q (begun_block ended t ∷ t.blocks)) same
    ((tt, none), inside_by t.slots t.blocks inside q)
begun_apart (stages.Around f a) u p q ended t is inside none fewer kept =
    let same : stages.Around f (suc a) ≡ u = cc in
    subst (λ v. IsKeptApart v q (begun_block ended t ∷ t.blocks)) same
    ((tt, none), fewer_apart p q (suc a) t.blocks fewer kept)

-- ---- an entry of which something is put off

free_by : (t : Bool) (p : ℕ → Option Meaning) (n : ℕ) (w : Meaning) (cs : List Change) → is_one_of (numbers_of cs) n ≡ t
    → p n ≡ Some w → AreNone p cs → t ≡ false
free_by true p n w cs test left none = absurd (cc (none_of p n cs none test, left))
free_by false p n w cs test left none = refl

below_by : (p : ℕ → Option Meaning) (n k : ℕ) (w : Meaning) → p n ≡ Some w → ((i : ℕ) → k ≤ i → p i ≡ None)
    → (n < k) ⊎ (k ≤ n) → n < k
below_by p n k w left none (inl less) = less
below_by p n k w left none (inr least) = absurd (cc (none n least, left))

pub outside_of : (p : ℕ → Option Meaning) (n : ℕ) (w : Meaning) (a : ℕ) (bs : List Branching) → p n ≡ Some w
    → AreApart p a bs → AreOutside n a bs
outside_of p n w a [] left apart = absurd apart
outside_of p n w zero (b ∷ bs) left apart = tt
outside_of p n w (suc a) (b ∷ bs) left apart = (
  (
    below_by p n b.count w left apart.0.1 (cases_lt n b.count),
    free_by (is_one_of (numbers_of b.changes) n) p n w b.changes refl left apart.0.0,
  ),
  outside_of p n w a bs left apart.1,
)

none_dead_by : (t : Bool) (mark n i : ℕ) (ls : List code_left.Left) → 0 < mark → nat_eq n i ≡ t
    → left_at mark ls i ≡ None → left_at mark (modify (with_mark 0) n ls) i ≡ None
none_dead_by true mark n i ls some test none =
    let same = eqb-true n i test in
    subst (λ k. left_at mark (modify (with_mark 0) n ls) k ≡ None) same (left_dead mark n ls some)
none_dead_by false mark n i ls some test none = left_other mark (with_mark 0) n i ls test ∙ none

pub none_dead : (mark n : ℕ) (ls : List code_left.Left) → 0 < mark → (i : ℕ) → left_at mark ls i ≡ None
    → left_at mark (modify (with_mark 0) n ls) i ≡ None
none_dead mark n ls some i none = none_dead_by (nat_eq n i) mark n i ls some refl none

-- ---- it means the same where the innermost blocks began

meant_by : (f : Slot → Entry) (x : Option Slot) → ((s : Slot) → x ≡ Some s → (f s).meaning ≡ s.meaning)
    → option_map (λ (e : Entry). e.meaning) (option_map f x) ≡ option_map (λ (s : Slot). s.meaning) x
meant_by f None same = refl
meant_by f (Some s) same = ap Some (same s refl)

meant_in : (f : Slot → Entry) (n : ℕ) (k : ℕ) (ss : List Slot) → n < k
    → ((s : Slot) → item_at n (take k ss) ≡ Some s → (f s).meaning ≡ s.meaning)
    → meaning_at n (seen f (take k ss)) ≡ meaning_at n (seen entry_in ss)
meant_in f n k ss less same =
    reverse_meaning n (map f (take k ss))
    ∙ ap (option_map (λ (e : Entry). e.meaning)) (item_mapped f n (take k ss))
    ∙ meant_by f (item_at n (take k ss)) same
    ∙ ap (option_map (λ (s : Slot). s.meaning)) (item_within n k ss less) ∙ sym (meaning_seen n ss)

ends_in : (t : Bool) (n : ℕ) (o : Option Meaning) (ds : List Entry) → meaning_at n ds ≡ o
    → EndsMean n (ends_seen t ds) o
ends_in true n o ds same = same
ends_in false n o ds same = tt

-- it means the same in the block around
behind_same : (n : ℕ) (ss : List Slot) (b : Branching) → IsOutside n b
    → meaning_at n (seen entry_in (before b ss)) ≡ meaning_at n (seen entry_in ss)
behind_same n ss b free =
    meaning_seen n (before b ss)
    ∙ ap (option_map (λ (s : Slot). s.meaning))
    (undone_item b.changes n (take b.count ss) free.1 ∙ item_within n b.count ss free.0) ∙ sym (meaning_seen n ss)

means_by : (n a : ℕ) (ss : List Slot) (bs : List Branching) → AreTracked ss bs → AreOutside n a bs
    → MeansSame a n (meaning_at n (seen entry_in ss)) (blocks_in ss bs)
means_by n a ss [] tracked outside = tt
means_by n zero ss (b ∷ bs) tracked outside = tt
means_by n (suc a) ss (b ∷ bs) tracked outside =
    let d = suc (length bs) in
    let free = outside.0 in (
      meant_in (start_in d) n b.count ss free.0
          (λ s is. ap (λ t. cond t s.start s.meaning) (tracked.0.2 n s is free.1)),
      ends_in b.ended n (meaning_at n (seen entry_in ss)) (seen (end_in d) (take b.count ss))
          (meant_in (end_in d) n b.count ss free.0
          (λ s is. ap (λ t. cond t s.ends s.meaning) (tracked.0.2 n s is free.1))),
      subst (λ o. MeansSame a n o (blocks_in (before b ss) bs)) (behind_same n ss b free)
          (means_by n a (before b ss) bs tracked.3 outside.1),
    )

pub means_same : (n a : ℕ) (t : code_tracked.Tracked) → AreOutside n a (tracked_of t).blocks
    → MeansSame a n (meaning_at n (known_by t).entries) (known_by t).blocks
means_same n a t outside = means_by n a (tracked_of t).slots (tracked_of t).blocks t.tracked outside

some_by : (n a : ℕ) (ss : List Slot) (bs : List Branching) → AreTracked ss bs → AreOutside n (suc a) bs → n < length ss
some_by n a ss [] tracked outside = absurd outside
some_by n a ss (b ∷ bs) tracked outside =
    let less = outside.0.0 in
    let enough = tracked.0.0 in
    omega arith

pub means_some : (n a : ℕ) (t : code_tracked.Tracked) → AreOutside n (suc a) (tracked_of t).blocks
    → None ≡ meaning_at n (known_by t).entries → ⊥
means_some n a t outside none =
    let ss = (tracked_of t).slots in
    let it = item_there n ss (some_by n a ss (tracked_of t).blocks t.tracked outside) in
    cc (none, meaning_seen n ss, ap (option_map (λ (s : Slot). s.meaning)) it.1)
