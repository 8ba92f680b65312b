-- Rows in an order, and what holds of each row.
use Rattle.std.proofs.Common.{◌≡◌, ℕ, zero, suc, ◌+◌, ◌<◌, List, [], ◌∷◌, ◌++◌, length, take, get_or, refl, ap, sym}
use Rattle.std.proofs.Common.{arith}
use Rattle.std.proofs.Common.{add-suc, suc-add, add-zero, append-nil, Some, None, slice_get, subst}
use Rattle.std.proofs.lemmas.List.{take_more, length-take-le}
use Rattle.std.proofs.lemmas.List.Elements.{filter_map-append}
use Rattle.std.proofs.Common.{◌∙◌, true, false, nat_lt, inl, inr, zero-add, map}
use Rattle.std.proofs.lemmas.List.{map-append}
use Rattle.std.proofs.lemmas.Bool.{cases_lt, lt-ltb, le-ltb}
use Rattle.std.proofs.lemmas.Option.{get_or_from_slice_get, slice_get_within, slice_get_read, slice_get_past}
use Rattle.std.specs.List.{AllByRecursion}
use Rattle.module_builder.specs.Ordering.{numbered, rows_in}

-- one more key
pub numbered_push : (number : ℕ) (keys : List ℕ) (key : ℕ)
    → numbered number (keys ++ key ∷ []) ≡ numbered number keys ++ (key, number + length keys) ∷ []
numbered_push number [] key = rw add-zero refl
numbered_push number (first ∷ keys) key =
    rw add-suc
    (ap (λ (rest : List (ℕ × ℕ)). (first, number) ∷ rest) (rw suc-add at (numbered_push (suc number) keys key)))

pub length-numbered : (number : ℕ) (keys : List ℕ) → length (numbered number keys) ≡ length keys
length-numbered number [] = refl
length-numbered number (key ∷ keys) = ap (λ (n : ℕ). suc n) (length-numbered (suc number) keys)

-- what holds of each holds of one
pub all_at : {X : Type 0} (P : X → Type 0) (xs : List X) (i : ℕ) (d : X)
    → i < length xs
    → AllByRecursion P xs
    → P (get_or xs i d)
all_at P [] i d h all = absurd (omega arith)
all_at P (x ∷ xs) zero d h all = all.0
all_at P (x ∷ xs) (suc i) d h all = all_at P xs i d (omega arith) all.1

pub all_get : {X : Type 0} (P : X → Type 0) (xs : List X) (i : ℕ) (x : X)
    → slice_get xs i ≡ Some x
    → AllByRecursion P xs
    → P x
all_get P xs i x is all =
    subst P (get_or_from_slice_get xs i x x is) (all_at P xs i x (slice_get_within xs i x is) all)

-- what a loop over keys has pushed
pub numbered_more : (keys : List ℕ) (i d : ℕ) (before after : List (ℕ × ℕ))
    → i < length keys
    → before ≡ numbered 0 (take i keys)
    → after ≡ before ++ (get_or keys i d, i) ∷ []
    → after ≡ numbered 0 (take (i + 1) keys)
numbered_more keys i d before after within was is =
    let front : length (take i keys) ≡ i = length-take-le i keys (omega arith) in
    let pushed : numbered 0 (take i keys ++ get_or keys i d ∷ [])
    ≡ numbered 0 (take i keys) ++ (get_or keys i d, i) ∷ [] =
    rw (front, zero-add) at (numbered_push 0 (take i keys) (get_or keys i d)) in
    rw (is, was, take_more keys i d within) (sym pushed)

-- ---- rows in an order

-- one more row
pub rows_in_more : {Row : Type 0} (order : List (ℕ × ℕ)) (rows : List Row) (i : ℕ) (d : ℕ × ℕ) (row : Row)
    → i < length order
    → slice_get rows (get_or order i d).1 ≡ Some row
    → rows_in (take (i + 1) order) rows ≡ rows_in (take i order) rows ++ row ∷ []
rows_in_more order rows i d row within is =
    rw (take_more order i d within, filter_map-append, is) refl

-- a number without a row
pub rows_in_same : {Row : Type 0} (order : List (ℕ × ℕ)) (rows : List Row) (i : ℕ) (d : ℕ × ℕ)
    → i < length order
    → slice_get rows (get_or order i d).1 ≡ None
    → rows_in (take (i + 1) order) rows ≡ rows_in (take i order) rows
rows_in_same order rows i d within is =
    rw (take_more order i d within, filter_map-append, is) (append-nil (rows_in (take i order) rows))

-- ---- what a look-up found

pub true_is_not_false : true ≡ false → ⊥
true_is_not_false e = cc

pub found_row : {Row : Type 0} (rows : List Row) (number : ℕ) (row : Row)
    → true ≡ nat_lt number (length rows)
    → row ≡ get_or rows number row
    → slice_get rows number ≡ Some row
found_row rows number row within is =
    elim (cases_lt number (length rows)) [
      | inl lt ↦ slice_get_read rows (length rows) number row refl lt is
      | inr le ↦ absurd (true_is_not_false (within ∙ le-ltb number (length rows) le))
    ]

pub missing_row : {Row : Type 0} (rows : List Row) (number : ℕ)
    → false ≡ nat_lt number (length rows)
    → slice_get rows number ≡ None
missing_row rows number past =
    elim (cases_lt number (length rows)) [
      | inl lt ↦ absurd (true_is_not_false (sym (lt-ltb number (length rows) lt) ∙ sym past))
      | inr le ↦ slice_get_past rows number le
    ]

-- ---- what a loop over an order has pushed

pub placed_more : {Row Out Value : Type 0} (view : Out → Value) (place : Row → Value)
    (order : List (ℕ × ℕ)) (rows : List Row)
    (i : ℕ) (d : ℕ × ℕ) (row : Row) (before after : List Out) (out : Out)
    → i < length order
    → slice_get rows (get_or order i d).1 ≡ Some row
    → map view before ≡ map place (rows_in (take i order) rows)
    → view out ≡ place row
    → after ≡ before ++ out ∷ []
    → map view after ≡ map place (rows_in (take (i + 1) order) rows)
placed_more view place order rows i d row before after out within found was is pushed =
    rw (rows_in_more order rows i d row within found, pushed, map-append, map-append, was, is) refl

pub placed_same : {Row Out Value : Type 0} (view : Out → Value) (place : Row → Value)
    (order : List (ℕ × ℕ)) (rows : List Row)
    (i : ℕ) (d : ℕ × ℕ) (before after : List Out)
    → i < length order
    → slice_get rows (get_or order i d).1 ≡ None
    → map view before ≡ map place (rows_in (take i order) rows)
    → after ≡ before
    → map view after ≡ map place (rows_in (take (i + 1) order) rows)
placed_same view place order rows i d before after within missing was same =
    rw (rows_in_same order rows i d within missing, same) was
