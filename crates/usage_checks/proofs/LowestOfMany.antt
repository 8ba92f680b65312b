-- The lowest number of a rule that is checked for one item after another.
use Rattle.std.proofs.Common.{◌≡◌, ℕ, suc, ◌+◌, ◌<◌, List, [], ◌∷◌, ◌++◌, length, map, take, get_or, Option, None}
use Rattle.std.proofs.Common.{inl, inr, sym, subst, ◌⊎◌, arith, add-zero}
use Rattle.std.proofs.lemmas.List.{length-take, length-map}
use Rattle.program_uses.specs.Lowest.{IsLowest, lower}
use Rattle.program_uses.proofs.LowestOfBoth.{none_broken, lowest_of, lowest_as, lowest_at}
use Rattle.program_uses.proofs.NextInTurn.{seen_more}
use Rattle.usage_checks.specs.EachBroken.{BreaksEach}

before_last : {A : Type 0} (Breaks : ℕ → A → ℕ → Type 0) (k : ℕ) (xs : List A) (x : A) (n : ℕ)
    → BreaksEach Breaks k (xs ++ x ∷ []) n → BreaksEach Breaks k xs n ⊎ Breaks (k + length xs) x n
before_last Breaks k [] x n (inl p) = inr (subst (λ j. Breaks j x n) (sym (add-zero k)) p)
before_last Breaks k [] x n (inr q) = absurd q
before_last Breaks k (y ∷ xs) x n (inl p) = inl (inl p)
before_last Breaks k (y ∷ xs) x n (inr q) =
    let place : suc k + length xs ≡ k + length (y ∷ xs) = omega arith in
    elim (before_last Breaks (suc k) xs x n q) [
      | inl p ↦ inl (inr p)
      | inr r ↦ inr (subst (λ j. Breaks j x n) place r)
    ]

with_last : {A : Type 0} (Breaks : ℕ → A → ℕ → Type 0) (k : ℕ) (xs : List A) (x : A) (n : ℕ)
    → BreaksEach Breaks k xs n ⊎ Breaks (k + length xs) x n → BreaksEach Breaks k (xs ++ x ∷ []) n
with_last Breaks k [] x n (inl p) = absurd p
with_last Breaks k [] x n (inr r) = inl (subst (λ j. Breaks j x n) (add-zero k) r)
with_last Breaks k (y ∷ xs) x n (inl (inl p)) = inl p
with_last Breaks k (y ∷ xs) x n (inl (inr q)) = inr (with_last Breaks (suc k) xs x n (inl q))
with_last Breaks k (y ∷ xs) x n (inr r) =
    let place : k + length (y ∷ xs) ≡ suc k + length xs = omega arith in
    inr (with_last Breaks (suc k) xs x n (inr (subst (λ j. Breaks j x n) place r)))

pub lowest_start : {A : Type 0} (Breaks : ℕ → A → ℕ → Type 0) (k : ℕ) → IsLowest (BreaksEach Breaks k []) None
lowest_start Breaks k = none_broken (λ n h. h)

-- one item more of the program's list, as its items are seen
pub lowest_next : {A B : Type 0} (Breaks : ℕ → B → ℕ → Type 0) (k : ℕ) (view : A → B) (xs : List A) (i : ℕ) (x d : A)
    {a b told : Option ℕ} → i < length xs → x ≡ get_or xs i d → told ≡ lower a b
    → IsLowest (BreaksEach Breaks k (map view (take i xs))) a → IsLowest (Breaks (k + i) (view x)) b
    → IsLowest (BreaksEach Breaks k (map view (take (i + 1) xs))) told
lowest_next Breaks k view xs i x d h is e a b =
    let ys = map view (take i xs) in
    let many : k + i ≡ k + length ys = simp (length-map, length-take) (omega arith) in
    let last = lowest_at (λ j. Breaks j (view x)) many b in
    lowest_at (BreaksEach Breaks k) (seen_more view xs i x d h is)
    (lowest_as (with_last Breaks k ys (view x)) (before_last Breaks k ys (view x)) (lowest_of e a last))
