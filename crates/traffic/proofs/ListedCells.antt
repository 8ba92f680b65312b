-- Each channel stays listed for its opener.
use Rattle.std.proofs.Common.{◌≡◌, ◌≢◌, ℕ, zero, suc, ◌++◌, ◌∷◌, [], true, List, Option, Some, None, inl, inr, sym}
use Rattle.std.proofs.Common.{◌∙◌, subst, ap, arith, slice_get, slice_set, replicate, eqb-true}
use Rattle.std.specs.Global.{Vec}
use Rattle.std.specs.List.{Contains}
use Rattle.std.proofs.Common.{Bool, false, if◌then◌else◌}
use Rattle.std.proofs.lemmas.Bool.{cases_eq}
use Rattle.std.proofs.lemmas.List.Elements.{Contains-append_left, Contains-push}
use Rattle.machine_state.specs.declared.process.Channel.{Channel}
use Rattle.machine_state.proofs.Lines.{got_set, got_other}
use Rattle.machine_state.proofs.Lines.{set_either}
use Rattle.traffic.specs.declared.opened.OpenedCells.{OpenedCells}
use Rattle.traffic.specs.Removing.{AreIn}
use Rattle.traffic.specs.OpenedCells.{words_of, listed, is_of, AreListed, KeepsListed, ListsAt}

-- another list, with all that one has, takes its place
pub still_listed : (lists : List (Vec ℕ)) (p : ℕ) (old new : Vec ℕ) → slice_get lists p ≡ Some old
    → ((k : ℕ) → Contains old.items k → Contains new.items k)
    → (q k : ℕ) → Contains (listed lists q) k → Contains (listed (slice_set lists p new) q) k
still_listed lists p old new there more q k found = elim (cases_eq p q) [
  | inl same ↦
      let at_p : Contains (listed lists p) k = subst (λ x. Contains (listed lists x) k) (sym same) found in
      let here : Contains old.items k = subst (λ o. Contains (words_of o) k) there at_p in
      subst (λ x. Contains (listed (slice_set lists p new) x) k) same
      (subst (λ o. Contains (words_of o) k) (sym (got_set lists p old new there)) (more k here))
  | inr differ ↦ subst (λ o. Contains (words_of o) k) (sym (got_other lists p q new differ)) found
]

-- there is one more list
pub still_listed_beside : (lists : List (Vec ℕ)) (new : Vec ℕ) (q k : ℕ) → Contains (listed lists q) k
    → Contains (listed (lists ++ new ∷ []) q) k
still_listed_beside [] new q k found = absurd (omega (arith, found.1))
still_listed_beside (x ∷ xs) new zero k found = found
still_listed_beside (x ∷ xs) new (suc q) k found = still_listed_beside xs new q k found

pub keeps_listed : (old new : OpenedCells) → new.are_all ≡ old.are_all
    → ((q k : ℕ) → Contains (listed old.lists.items q) k → Contains (listed new.lists.items q) k)
    → KeepsListed old new
keeps_listed old new same more channels are = record {
  each = λ holds k c there. more c.opener k (are.each (sym same ∙ holds) k c there);
}

-- a data word has a channel of this opener from now on
pub listed_after : (cell opener : ℕ) (old new : OpenedCells) (channels : List (Option Channel)) (channel : Channel)
    → channel.opener ≡ opener → (new.are_all ≡ true → old.are_all ≡ true)
    → ((q k : ℕ) → Contains (listed old.lists.items q) k → Contains (listed new.lists.items q) k)
    → (new.are_all ≡ true → Contains (listed new.lists.items opener) cell) → AreListed old channels
    → AreListed new (slice_set channels cell (Some channel))
listed_after cell opener old new channels channel mine all more there are = record {
  each = λ holds k c found. elim (set_either channels cell (Some channel) k (Some c) found) [
    | inl here ↦
        let is : c ≡ channel = cc here.1 in
        let by : opener ≡ c.opener = sym mine ∙ sym (ap (λ (x : Channel). x.opener) is) in
        subst (λ x. Contains (listed new.lists.items c.opener) x) here.0
        (subst (λ x. Contains (listed new.lists.items x) cell) by (there holds))
    | inr other ↦ more c.opener k (are.each (all holds) k c other.1)
  ];
}

pub already_listed : (cell : ℕ) (before : Option Channel) (opener : ℕ) (opened : OpenedCells)
    → is_of before opener ≡ true → ListsAt cell before opener opened opened
already_listed cell None opener opened is channels channel there mine are = absurd (cc)
already_listed cell (Some b) opener opened is channels channel there mine are =
    listed_after cell opener opened opened channels channel mine (λ holds. holds) (λ q k found. found)
    (λ holds. subst (λ x. Contains (listed opened.lists.items x) cell) (eqb-true b.opener opener is)
    (are.each holds cell b there)) are

-- ---- fewer channels

-- no channel is there
pub none_listed : (opened : OpenedCells) (n : ℕ) → AreListed opened (replicate n None)
none_listed opened n = record { each = λ holds k c there. absurd (nobody n k c there) }
  where
    nobody : (n k : ℕ) (c : Channel) → slice_get (replicate n None) k ≢ Some (Some c)
    nobody zero k c there = absurd (cc)
    nobody (suc n) zero c there = absurd (cc)
    nobody (suc n) (suc k) c there = nobody n k c there

pub fewer_listed : (opened : OpenedCells) (old new : List (Option Channel))
    → ((k : ℕ) (c : Channel) → slice_get new k ≡ Some (Some c) → slice_get old k ≡ Some (Some c))
    → AreListed opened old → AreListed opened new
fewer_listed opened old new kept are = record { each = λ holds k c there. are.each holds k c (kept k c there) }

-- the channels of an opener are in the words that are listed for it
pub all_in : (opened : OpenedCells) (channels : List (Option Channel)) (p : ℕ) (o : Option (Vec ℕ))
    → opened.are_all ≡ true → slice_get opened.lists.items p ≡ o → AreListed opened channels
    → AreIn (words_of o) p channels
all_in opened channels p o holds there are k c here mine =
    subst (λ x. Contains (words_of x) k) there
    (subst (λ q. Contains (listed opened.lists.items q) k) mine (are.each holds k c here))

-- once an opener has no channels, its list may be any
pub listed_but_for : (old new : OpenedCells) (before after : List (Option Channel)) (p : ℕ) (cells : Vec ℕ)
    → new.are_all ≡ old.are_all → new.lists.items ≡ slice_set old.lists.items p cells
    → ((k : ℕ) (c : Channel) → slice_get after k ≡ Some (Some c) → slice_get before k ≡ Some (Some c))
    → AreIn [] p after → AreListed old before → AreListed new after
listed_but_for old new before after p cells same set kept gone are = record {
  each = λ holds k c here.
      let differ : p ≢ c.opener = λ mine. omega (arith, (gone k c here (sym mine)).1) in
      let found : Contains (words_of (slice_get old.lists.items c.opener)) k =
      are.each (sym same ∙ holds) k c (kept k c here) in
      subst (λ l. Contains (listed l c.opener) k) (sym set)
      (subst (λ o. Contains (words_of o) k) (sym (got_other old.lists.items p c.opener cells differ)) found);
}

-- ---- a push that may fail

pub pushed_keeps : (old new : Vec ℕ) (cell : ℕ) (is_pushed : Bool)
    → new.items ≡ (if is_pushed then old.items ++ cell ∷ [] else old.items)
    → (k : ℕ) → Contains old.items k → Contains new.items k
pushed_keeps old new cell true is k found =
    subst (λ (l : List ℕ). Contains l k) (sym is) (Contains-append_left old.items (cell ∷ []) k found)
pushed_keeps old new cell false is k found = subst (λ (l : List ℕ). Contains l k) (sym is) found

pub pushed_there : (lists : List (Vec ℕ)) (p : ℕ) (old new : Vec ℕ) (cell : ℕ) → slice_get lists p ≡ Some old
    → (is_pushed : Bool) → new.items ≡ (if is_pushed then old.items ++ cell ∷ [] else old.items)
    → is_pushed ≡ true → Contains (listed (slice_set lists p new) p) cell
pushed_there lists p old new cell there true is done =
    subst (λ o. Contains (words_of o) cell) (sym (got_set lists p old new there))
    (subst (λ (l : List ℕ). Contains l cell) (sym is) (Contains-push old.items cell))
pushed_there lists p old new cell there false is done = absurd (cc)
