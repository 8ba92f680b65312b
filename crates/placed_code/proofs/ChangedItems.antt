-- Items of lists of which one is changed.
use Rattle.std.proofs.Common.{◌≡◌, ◌≢◌, ℕ, zero, suc, ◌<◌, List, [], ◌∷◌, length, refl, ap, arith}
use Rattle.std.specs.Prelude.{unwrap_or}
use Rattle.scalar_ranges.specs.Environments.{item_at}
use Rattle.program_meaning.specs.Links.{with_item}

-- the item that is changed
pub item_same : {A : Type 0} (f : A → A) (i : ℕ) (xs : List A) (d : A) → i < length xs
    → unwrap_or (item_at i (with_item f i xs)) d ≡ f (unwrap_or (item_at i xs) d)
item_same f i [] d less = absurd (omega (arith, less))
item_same f zero (x ∷ xs) d less = refl
item_same f (suc i) (x ∷ xs) d less = item_same f i xs d (omega (arith, less))

-- another one stays
pub item_other : {A : Type 0} (f : A → A) (i j : ℕ) (xs : List A) → i ≢ j
    → item_at j (with_item f i xs) ≡ item_at j xs
item_other f i j [] differ = refl
item_other f zero zero (x ∷ xs) differ = absurd (differ refl)
item_other f zero (suc j) (x ∷ xs) differ = refl
item_other f (suc i) zero (x ∷ xs) differ = refl
item_other f (suc i) (suc j) (x ∷ xs) differ = item_other f i j xs (λ e. differ (ap suc e))

-- there are as many
pub length-with_item : {A : Type 0} (f : A → A) (i : ℕ) (xs : List A) → length (with_item f i xs) ≡ length xs
length-with_item f i [] = refl
length-with_item f zero (x ∷ xs) = refl
length-with_item f (suc i) (x ∷ xs) = ap suc (length-with_item f i xs)
