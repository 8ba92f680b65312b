-- Testing whether items keep their rules, one after the other.
use Rattle.std.proofs.Common.{◌≡◌, ℕ, ◌+◌, ◌<◌, ◌≤◌, Bool, true, false, ◌↔◌, List, [], ◌∷◌, ◌++◌}
use Rattle.std.proofs.Common.{length, drop, map, get_or, refl}
use Rattle.std.proofs.Common.{sym, subst, ◌∙◌, append_assoc}
use Rattle.std.specs.Prelude.{IsTrue}
use Rattle.std.specs.List.{AllByRecursion}
use Rattle.std.proofs.lemmas.List.{append-nil, drop_all, length-map}
use Rattle.module_format.specs.Contents.{Branch}
use Rattle.module_format.specs.Order.{InOrder, behind_all}
use Rattle.module_format.specs.Pars.{Before, behind_branch, entries_of}
use Rattle.module_format.proofs.Loop.{mapped_item_at}

-- rules of items that are seen by f, in a loop over the items
module _ {A B S : Type 0} (Keeps : S → B → Type 0) (next : S → B → S) (f : A → B) {Whole : Type 0} (xs : List A)
    (i : ℕ) (low : S) (so_far : Whole ↔ InOrder Keeps next low (drop i (map f xs))) where
  module _ (x : A) (there : i < length xs) (is : x ≡ get_or xs i x) where
    split : Whole ↔ InOrder Keeps next low (f x ∷ drop (i + 1) (map f xs))
    split = subst (λ (ys : List B). Whole ↔ InOrder Keeps next low ys) (mapped_item_at f xs xs i x refl there is) so_far

    -- the item here keeps its rules, so all do exactly if those after it do
    pub order_goes_on : Keeps low (f x) → Whole ↔ InOrder Keeps next (next low (f x)) (drop (i + 1) (map f xs))
    order_goes_on kept = (λ h. (split.0 h).1, λ h. split.1 (kept, h))

    -- the item here doesn't
    pub order_fails : (Keeps low (f x) → ⊥) → IsTrue false ↔ Whole
    order_fails broken = (λ e. absurd cc, λ h. absurd (broken (split.0 h).0))

  -- no item is left
  pub order_is_done : length xs ≤ i → IsTrue true ↔ Whole
  order_is_done past =
      let long : length (map f xs) ≤ i = rw length-map past in
      let same = subst (λ (ys : List B). Whole ↔ InOrder Keeps next low ys) (drop_all i (map f xs) long) so_far in
      (λ _. same.1 tt, λ _. refl)

-- a test that failed, and what it tests
pub is_broken : {P : Type 0} (b : Bool) → b ≡ false → IsTrue b ↔ P → P → ⊥
is_broken true e same h = absurd cc
is_broken false e same h = absurd (let t = same.1 h in cc)

pub is_kept : {P : Type 0} (b : Bool) → b ≡ true → IsTrue b ↔ P → P
is_kept b e same = same.0 e

-- what each item keeps wherever it is
pub each : {A S : Type 0} (K : S → A → Type 0) (next : S → A → S) (P : A → Type 0) → ((low : S) (x : A) → K low x → P x)
    → (low : S) (xs : List A) → InOrder K next low xs → AllByRecursion P xs
each K next P one low [] h = tt
each K next P one low (x ∷ xs) h = (one low x h.0, each K next P one (next low x) xs h.1)

-- what holds of each item besides what it keeps, apart and together
module _ {A S : Type 0} (K : S → A → Type 0) (P : A → Type 0) (next : S → A → S) where
  pub parted : (low : S) (xs : List A) → InOrder (λ low x. K low x × P x) next low xs
      → InOrder K next low xs × AllByRecursion P xs
  parted low [] h = (tt, tt)
  parted low (x ∷ xs) h = let more = parted (next low x) xs h.1 in ((h.0.0, more.0), (h.0.1, more.1))

  pub joined : (low : S) (xs : List A) → InOrder K next low xs → AllByRecursion P xs
      → InOrder (λ low x. K low x × P x) next low xs
  joined low [] h g = tt
  joined low (x ∷ xs) h g = ((h.0, g.0), joined (next low x) xs h.1 g.1)

-- what all leave, and then one more
pub behind_last : {A S : Type 0} (next : S → A → S) (low : S) (xs : List A) (x : A)
    → behind_all next low (xs ++ x ∷ []) ≡ next (behind_all next low xs) x
behind_last next low [] x = refl
behind_last next low (y ∷ xs) x = behind_last next (next low y) xs x

-- the entries that branches leave
pub behind_branches : (before : Before) (bs : List Branch)
    → (behind_all behind_branch before bs).entries ≡ before.entries ++ entries_of bs
behind_branches before [] = sym (append-nil before.entries)
behind_branches before (b ∷ bs) =
    behind_branches (behind_branch before b) bs ∙ append_assoc before.entries (b.entry ∷ []) (entries_of bs)
