-- The places of branches, and the contexts that they belong to.
use Rattle.std.proofs.Common.{◌≡◌, ℕ, zero, suc, ◌+◌, ◌<◌, ◌≤◌, cond, ltb, List, [], ◌∷◌, ◌++◌, length, map, take}
use Rattle.std.proofs.Common.{get_or, Some, refl, sym, ap, subst, ◌∙◌, inl, inr, arith}
use Rattle.std.specs.Prelude.{slice_get, option_map, MatchOption}
use Rattle.std.proofs.lemmas.Bool.{cases_lt, lt-ltb, le-ltb}
use Rattle.std.proofs.lemmas.List.{length-append, length-map, get_or_push, get_or_append_left}
use Rattle.std.proofs.lemmas.List.Sums.{sum_by-cons}
use Rattle.std.proofs.lemmas.Option.{slice_get-map}
use Rattle.small_laws.proofs.Lookups.{slice_get-append_left}
use Rattle.module_format.specs.declared.places.Place.{Place}
use Rattle.module_format.specs.declared.limits.TheConstants.{MAX_BRANCHES}
use Rattle.module_format.specs.Contents.{Branch, Par, Contents}
use Rattle.module_format.specs.Contexts.{owner, branch_count, first_branch}
use Rattle.module_format.specs.Order.{InOrder}
use Rattle.module_format.specs.Pars.{Before, ParKeeps, behind_par, no_branches, entries_of}
use Rattle.module_format.specs.Keeping.{RowsKeep}
use Rattle.module_format.specs.Places.{branches_of, IsPlace, ArePlaces}

-- ---- owners

-- a context before the branches of these rows
pub owner_below : (first : ℕ) (rows : List Par) (n : ℕ) → n < first → owner first rows n ≡ n
owner_below first [] n lt = refl
owner_below first (row ∷ rows) n lt =
    rw (owner_below (first + length row.branches) rows n (omega arith), lt-ltb n first lt) refl

pub count_cons : (row : Par) (rows : List Par) → branch_count (row ∷ rows) ≡ length row.branches + branch_count rows
count_cons row rows = sum_by-cons (λ (r : Par). length r.branches) row rows

-- a branch belongs to what the context of its row belongs to
pub owner_of_branch : (first : ℕ) (rows : List Par) (k b : ℕ) (row : Par) → slice_get rows k ≡ Some row
    → b < length row.branches → row.context < first + branch_count (take k rows)
    → owner first rows (first + (branch_count (take k rows) + b)) ≡ owner first rows row.context
owner_of_branch first [] k b row is inside before = absurd cc
owner_of_branch first (r ∷ rows) zero b row is inside before =
    let same : r ≡ row = cc in
    let known : row.context < first = omega arith in
    let long : length r.branches ≡ length row.branches = ap (λ (x : Par). length x.branches) same in
    let lower : first + (0 + b) < first + length r.branches = omega arith in
    let context : r.context ≡ row.context = ap (λ (x : Par). x.context) same in
    rw (
      owner_below (first + length r.branches) rows (first + (0 + b)) lower,
      owner_below (first + length r.branches) rows row.context (omega arith),
      le-ltb (first + (0 + b)) first (omega arith),
      lt-ltb row.context first known,
    ) context
owner_of_branch first (r ∷ rows) (suc k) b row is inside before =
    let count = count_cons r (take k rows) in
    let place : first + (branch_count (take (suc k) (r ∷ rows)) + b)
    ≡ (first + length r.branches) + (branch_count (take k rows) + b) = omega arith in
    let known : row.context < (first + length r.branches) + branch_count (take k rows) = omega arith in
    let within = owner_of_branch (first + length r.branches) rows k b row is inside known in
    ap (owner first (r ∷ rows)) place ∙ ap (λ (n : ℕ). cond (ltb n first) n r.context) within

-- the context of a row is before its own branches
pub context_before : (own code_len : ℕ) (before : Before) (rows : List Par) (k : ℕ) (row : Par)
    → InOrder (ParKeeps own code_len) behind_par before rows → slice_get rows k ≡ Some row
    → row.context < own + (length before.entries + branch_count (take k rows))
context_before own code_len before [] k row keeps is = absurd cc
context_before own code_len before (r ∷ rows) zero row keeps is =
    let same : r ≡ row = cc in
    let context : r.context ≡ row.context = ap (λ (x : Par). x.context) same in
    let known = keeps.0.context in
    omega arith
context_before own code_len before (r ∷ rows) (suc k) row keeps is =
    let later = context_before own code_len (behind_par before r) rows k row keeps.1 is in
    let count = count_cons r (take k rows) in
    let longer : length (before.entries ++ entries_of r.branches) ≡ length before.entries + length r.branches =
    simp (length-append, length-map) in
    omega arith

-- ---- rows

slice_get_right : {X : Type 0} (xs ys : List X) (n i : ℕ) → n ≡ length xs
    → slice_get (xs ++ ys) (n + i) ≡ slice_get ys i
slice_get_right [] ys n i long = let here : n + i ≡ i = omega arith in ap (slice_get ys) here
slice_get_right (z ∷ xs) ys n i long = let next : n + i ≡ suc (length xs + i) =
    omega arith in rw next (slice_get_right xs ys (length xs) i refl)

-- the branch with number b of row k is after those of the rows before
pub branch_stands : (rows : List Par) (k b : ℕ) (row : Par) (x : Branch) → slice_get rows k ≡ Some row
    → slice_get row.branches b ≡ Some x → slice_get (branches_of rows) (branch_count (take k rows) + b) ≡ Some (row, x)
branch_stands [] k b row x is here = absurd cc
branch_stands (r ∷ rows) zero b row x is here =
    let same : r ≡ row = cc in
    let paired : Branch → Par × Branch = λ y. (r, y) in
    let in_row : slice_get r.branches b ≡ Some x = ap (λ (q : Par). slice_get q.branches b) same ∙ here in
    let found : slice_get (map paired r.branches) b ≡ Some (row, x) =
    slice_get-map paired r.branches b ∙ ap (option_map paired) in_row ∙ ap (λ (q : Par). Some (q, x)) same in
    let place : 0 + b ≡ b = omega arith in
    ap (slice_get (branches_of (r ∷ rows))) place
    ∙ slice_get-append_left (map paired r.branches) (branches_of rows) b (row, x) found
branch_stands (r ∷ rows) (suc k) b row x is here =
    let count = count_cons r (take k rows) in
    let place : branch_count (take (suc k) (r ∷ rows)) + b ≡ length r.branches + (branch_count (take k rows) + b) =
    omega arith in
    let paired : Branch → Par × Branch = λ y. (r, y) in
    let long : length r.branches ≡ length (map paired r.branches) = sym (length-map r.branches paired) in
    ap (slice_get (branches_of (r ∷ rows))) place
    ∙ slice_get_right (map paired r.branches) (branches_of rows) (length r.branches)
    (branch_count (take k rows) + b) long
    ∙ branch_stands rows k b row x is here

-- an item that is there
pub there : {X : Type 0} (P : X → Type 0) (xs : List X) (i : ℕ) → i < length xs
    → ((x : X) → slice_get xs i ≡ Some x → P x) → MatchOption (slice_get xs i) ⊥ P
there P [] i lt f = absurd (omega arith)
there P (x ∷ xs) zero lt f = f x refl
there P (x ∷ xs) (suc i) lt f = there P xs i (omega arith) f

with_item : {X : Type 0} (P : Type 0) (xs : List X) (i : ℕ) → i < length xs → ((x : X) → slice_get xs i ≡ Some x → P)
    → P
with_item P [] i lt f = absurd (omega arith)
with_item P (x ∷ xs) zero lt f = f x refl
with_item P (x ∷ xs) (suc i) lt f = with_item P xs i (omega arith) f

-- what holds of each item and of one more
pub each_more : {X : Type 0} (P : ℕ → X → Type 0) (xs : List X) (x : X)
    → ((i : ℕ) (d : X) → i < length xs → P i (get_or xs i d)) → P (length xs) x
    → (i : ℕ) (d : X) → i < length (xs ++ x ∷ []) → P i (get_or (xs ++ x ∷ []) i d)
each_more {X = X} P xs x each last i d lt =
    let longer = length-append xs (x ∷ []) in
    elim (cases_lt i (length xs)) [
      | inl less ↦ subst (λ (y : X). P i y) (sym (get_or_append_left xs (x ∷ []) d i less)) (each i d less)
      | inr ge ↦
          let at_end : i ≡ length xs = omega arith in
          rw at_end (subst (λ (y : X). P (length xs) y) (sym (get_or_push xs x d (length xs) refl)) last)
    ]

-- one place more
pub more_places : (c : Contents) (k b : ℕ) (row : Par) (places : List Place) (place : Place) → RowsKeep c
    → slice_get c.pars k ≡ Some row → b < length row.branches
    → place.par ≡ k → place.branch ≡ b → place.owner ≡ owner (first_branch c) c.pars row.context
    → ArePlaces c (branch_count (take k c.pars) + b) places
    → ArePlaces c (branch_count (take k c.pars) + (b + 1)) (places ++ place ∷ [])
more_places c k b row places place keeps is inside par branch owns h =
    let before = context_before (first_branch c) (length c.code) no_branches c.pars k row keeps.pars is in
    let known : row.context < first_branch c + branch_count (take k c.pars) = omega (arith, before) in
    let count = h.many in
    let here : IsPlace c (branch_count (take k c.pars) + b) place = record {
      stands = rw (par, is, branch) (there (λ x. slice_get (branches_of c.pars) (branch_count (take k c.pars) + b)
          ≡ Some (row, x)) row.branches b inside (λ x found. branch_stands c.pars k b row x is found));
      owner = owns ∙ sym (owner_of_branch (first_branch c) c.pars k b row is inside known);
    } in
    let longer = length-append places (place ∷ []) in
    record {
      many = omega arith;
      each = each_more (IsPlace c) places place h.each (rw count here);
    }

-- the branches of one row more
pub count_more : (rows : List Par) (k : ℕ) (row : Par) → slice_get rows k ≡ Some row
    → branch_count (take (k + 1) rows) ≡ branch_count (take k rows) + length row.branches
count_more [] k row is = absurd cc
count_more (r ∷ rows) zero row is =
    let same : r ≡ row = cc in
    let long : length r.branches ≡ length row.branches = ap (λ (x : Par). length x.branches) same in
    count_cons r [] ∙ (let n : length r.branches + 0 ≡ 0 + length row.branches = omega arith in n)
count_more (r ∷ rows) (suc k) row is =
    let more = count_more rows k row is in
    let count = count_cons r (take k rows) in
    let others = count_cons r (take (k + 1) rows) in
    let next : suc k + 1 ≡ suc (k + 1) = omega arith in
    ap (λ (n : ℕ). branch_count (take n (r ∷ rows))) next
    ∙ (let sum : branch_count (r ∷ take (k + 1) rows)
    ≡ branch_count (r ∷ take k rows) + length row.branches = omega arith in sum)

-- an item at an index, as its view is found
pub item_there : {A B : Type 0} (f : A → B) (xs : List A) (i : ℕ) (x : A) → i < length xs → x ≡ get_or xs i x
    → slice_get (map f xs) i ≡ Some (f x)
item_there f [] i x lt is = absurd (omega arith)
item_there f (y ∷ xs) zero x lt is = ap (λ z. Some (f z)) (sym is)
item_there f (y ∷ xs) (suc i) x lt is = item_there f xs i x (omega arith) is

-- the branches of a row are few
pub branches_few : (own code_len : ℕ) (before : Before) (rows : List Par) (k : ℕ) (row : Par)
    → InOrder (ParKeeps own code_len) behind_par before rows → slice_get rows k ≡ Some row
    → length row.branches ≤ MAX_BRANCHES
branches_few own code_len before [] k row keeps is = absurd cc
branches_few own code_len before (r ∷ rows) zero row keeps is =
    let same : r ≡ row = cc in
    subst (λ (x : Par). length x.branches ≤ MAX_BRANCHES) same keeps.0.branch_limit
branches_few own code_len before (r ∷ rows) (suc k) row keeps is =
    branches_few own code_len (behind_par before r) rows k row keeps.1 is

-- the places of all branches of a row, and of all rows
pub row_placed : (c : Contents) (k n : ℕ) (row : Par) (places : List Place) → slice_get c.pars k ≡ Some row
    → n ≡ length row.branches
    → ArePlaces c (branch_count (take k c.pars) + n) places → ArePlaces c (branch_count (take (k + 1) c.pars)) places
row_placed c k n row places is all h =
    let count = count_more c.pars k row is in
    let here = h.many in
    record { many = omega arith; each = h.each }
