-- Channels of one opener are no more, and the counts of what is enabled stay right.
use Rattle.std.proofs.Common.{◌≡◌, ◌≢◌, ℕ, zero, suc, ◌++◌, ◌∷◌, [], ◌==◌, Bool, true, false, List, Option, Some, None}
use Rattle.std.proofs.Common.{inl, inr, refl, sym, ◌∙◌, ap, subst, arith, slice_get, slice_set, if◌then◌else◌}
use Rattle.std.proofs.Common.{eqb-true, ◌&&◌}
use Rattle.std.proofs.lemmas.Bool.{eqb-false}
use Rattle.std.proofs.lemmas.List.Elements.{Contains-push_cases}
use Rattle.machine_state.specs.declared.process.Channel.{Channel}
use Rattle.machine_state.specs.Joins.{without_channels}
use Rattle.machine_state.proofs.Lines.{set_either}
use Rattle.traffic.specs.EnabledCounts.{handed_over}
use Rattle.traffic.specs.Removing.{channel_in, Removes, IsGone, AreIn}
use Rattle.traffic.proofs.Counting.{channel_recounted}
use Rattle.traffic.proofs.Uncounted.{all_after_channel}

pub is_there : (channels : List (Option Channel)) (k : ℕ) (c : Channel) → channel_in channels k ≡ Some c
    → slice_get channels k ≡ Some (Some c)
is_there [] k c is = absurd (cc)
is_there (x ∷ xs) zero c is = ap Some is
is_there (x ∷ xs) (suc k) c is = is_there xs k c is

-- a cell whose channel, if there is one, is not this opener's
pub not_of : (o : ℕ) (channels : List (Option Channel)) (k : ℕ)
    → ((c : Channel) → channel_in channels k ≡ Some c → c.opener ≢ o) → IsGone o channels k
not_of o [] k other c there mine = absurd (cc)
not_of o (x ∷ xs) zero other c there mine = other c (cc) mine
not_of o (x ∷ xs) (suc k) other c there mine = not_of o xs k other c there mine

pub removes_none : (o : ℕ) (channels : List (Option Channel)) (counts : List ℕ)
    → Removes o channels channels counts counts
removes_none o channels counts = record {
  rest = refl;
  kept = λ k c there. there;
  counted = λ inputs are. are;
  all = λ holds inputs are. are;
}

pub removes_more : (o : ℕ) (first second third : List (Option Channel)) (n n' n'' : List ℕ)
    → Removes o first second n n' → Removes o second third n' n'' → Removes o first third n n''
removes_more o first second third n n' n'' before after = record {
  rest = after.rest ∙ before.rest;
  kept = λ k c there. before.kept k c (after.kept k c there);
  counted = λ inputs are. after.counted inputs (before.counted inputs are);
  all = λ holds inputs are. after.all holds inputs (before.all holds inputs are);
}

-- the channel in a cell, unless it is this opener's
abbrev unless_of : ℕ → Option Channel → Option Channel
unless_of opener cell = elim cell [
  | None ↦ None
  | Some channel ↦ if channel.opener == opener then None else Some channel
]

-- a cell without its channel, which was this opener's
rest_at : (o : ℕ) (channels : List (Option Channel)) (k : ℕ) (c : Channel) → slice_get channels k ≡ Some (Some c)
    → c.opener ≡ o → without_channels o (slice_set channels k None) ≡ without_channels o channels
rest_at o [] k c there mine = absurd (cc)
rest_at o (x ∷ xs) (suc k) c there mine = ap (λ l. unless_of o x ∷ l) (rest_at o xs k c there mine)
rest_at o (x ∷ xs) zero c there mine =
    let is : x ≡ Some c = cc in
    let none : None ≡ unless_of o (Some c) = cases (c.opener == o) refl in
    ap (λ y. y ∷ without_channels o xs) (none ∙ ap (unless_of o) (sym is))
  where
    cases : (b : Bool) → (c.opener == o) ≡ b → ◌≡◌ {A = Option Channel} None (if b then None else Some c)
    cases true is = refl
    cases false is = absurd (eqb-false c.opener o is mine)

pub removes_one : (o : ℕ) (channels : List (Option Channel)) (counts : List ℕ) (k : ℕ) (c : Channel)
    → slice_get channels k ≡ Some (Some c) → c.opener ≡ o
    → Removes o channels (slice_set channels k None) counts (handed_over c.enabled None counts)
removes_one o channels counts k c there mine = record {
  rest = rest_at o channels k c there mine;
  kept = λ j d now. elim (set_either channels k None j (Some d) now) [
    | inl here ↦ absurd (let e : ◌≡◌ {A = Option Channel} (Some d) None = here.1 in cc)
    | inr other ↦ other.1
  ];
  counted = λ inputs are. channel_recounted counts inputs channels k (Some c) None there are;
  all = λ holds inputs are.
      let after = all_after_channel holds counts inputs channels k (Some c) None there are in
      record { others = λ now. after.others (is_still holds now) };
}
  where
    is_still : (holds : Bool) → holds ≡ true → (holds && true) ≡ true
    is_still true is = refl
    is_still false is = is

pub gone_at : (o : ℕ) (channels : List (Option Channel)) (k : ℕ) → IsGone o (slice_set channels k None) k
gone_at o channels k d now = elim (set_either channels k None k (Some d) now) [
  | inl here ↦ absurd (let e : ◌≡◌ {A = Option Channel} (Some d) None = here.1 in cc)
  | inr other ↦ absurd (other.0 refl)
]

-- one of the cells in which the channels are is empty
pub in_fewer : (o : ℕ) (cells : List ℕ) (cell : ℕ) (old new : List (Option Channel)) (n n' : List ℕ)
    → AreIn (cells ++ cell ∷ []) o old → Removes o old new n n' → IsGone o new cell → AreIn cells o new
in_fewer o cells cell old new n n' are removes gone k c there mine =
    elim (Contains-push_cases cells cell k (are k c (removes.kept k c there) mine)) [
      | inl among ↦ among
      | inr here ↦ absurd (gone c (subst (λ x. slice_get new x ≡ Some (Some c)) (sym here) there) mine)
    ]

later : (o : ℕ) (x : Option Channel) (xs : List (Option Channel)) → AreIn [] o (x ∷ xs) → AreIn [] o xs
later o x xs none k c there mine = absurd (omega (arith, (none (suc k) c there mine).1))

-- without channels of the opener nothing is taken away
pub none_of : (o : ℕ) (channels : List (Option Channel)) → AreIn [] o channels → without_channels o channels ≡ channels
none_of o [] none = refl
none_of o (None ∷ xs) none = ap (λ l. None ∷ l) (none_of o xs (later o None xs none))
none_of o (Some c ∷ xs) none =
    ap (λ y. y ∷ without_channels o xs) (cases (c.opener == o) refl)
    ∙ ap (λ l. Some c ∷ l) (none_of o xs (later o (Some c) xs none))
  where
    cases : (b : Bool) → (c.opener == o) ≡ b → ◌≡◌ {A = Option Channel} (if b then None else Some c) (Some c)
    cases true is = absurd (omega (arith, (none zero c refl (eqb-true c.opener o is)).1))
    cases false is = refl

pub all_removed : (o : ℕ) (old new : List (Option Channel)) (n n' : List ℕ) → Removes o old new n n'
    → AreIn [] o new → new ≡ without_channels o old
all_removed o old new n n' removes none = sym (none_of o new none) ∙ removes.rest
