-- The branches of a module, by their numbers and by their entries.
use Rattle.std.proofs.Common.{◌≡◌, ◌⊎◌, ℕ, zero, suc, ◌+◌, ◌-◌, ◌*◌, ◌^◌, ◌<◌, ◌≤◌, true, false, cond, eqb, ltb, List}
use Rattle.std.proofs.Common.{[], ◌∷◌, ◌++◌, length, map, take, get_or, Some, None, refl, sym, ap, subst, ◌∙◌, inl, inr}
use Rattle.std.proofs.Common.{arith}
use Rattle.std.specs.Prelude.{◌==◌, ◌&&◌, if◌then◌else◌, slice_index, slice_get, option_map, MatchOption}
use Rattle.std.proofs.lemmas.Bool.{lt-ltb, le-ltb}
use Rattle.std.proofs.lemmas.Bool.Decides.{nat_tests}
use Rattle.std.proofs.lemmas.List.{length-append, length-map, map_more, length-take-le, take_all}
use Rattle.std.proofs.lemmas.List.Elements.{All-from_recursion}
use Rattle.std.proofs.lemmas.List.Sums.{sum_by-le}
use Rattle.std.proofs.lemmas.Option.{get_or_from_slice_get, slice_get_past, slice_get_within}
use Rattle.module_format.specs.declared.limits.TheConstants.{MAX_BRANCHES}
use Rattle.module_format.specs.declared.places.Place.{Place}
use Rattle.module_format.specs.Rows.{ParRow}
use Rattle.module_format.specs.Rows.{BranchRow}
use Rattle.module_format.specs.declared.tables.Tables.{Tables}
use Rattle.module_format.specs.Contents.{Branch, Par, Contents, branch_of, par_of, contents_of}
use Rattle.module_format.specs.Contexts.{branch_count, first_branch}
use Rattle.module_format.specs.Pars.{ParKeeps, behind_par, no_branches}
use Rattle.module_format.specs.Keeping.{Keeps}
use Rattle.module_format.specs.Places.{branches_of, IsPlace, ArePlaces}
use Rattle.module_format.proofs.OrderLaws.{each}
use Rattle.module_format.proofs.PlaceLaws.{count_cons}
use Rattle.certificate.specs.Branches.{numbered_branch, Forked, branch_from, branch_at, number_from, AreNumbers}

-- ---- looking up a branch

module _ {A B : Type 0} (f : A → B) (P : B → Type 0) where
  -- an item that is there is within its list, and what is said of it holds
  pub is_inside : (xs : List A) (i : ℕ) → MatchOption (slice_get (map f xs) i) ⊥ P → i < length xs
  is_inside [] i h = absurd h
  is_inside (x ∷ xs) zero h = omega arith
  is_inside (x ∷ xs) (suc i) h = let next = is_inside xs i h in omega arith

  pub holds_of : (xs : List A) (i : ℕ) (x : A) → MatchOption (slice_get (map f xs) i) ⊥ P → x ≡ get_or xs i x → P (f x)
  holds_of [] i x h is = absurd h
  holds_of (y ∷ xs) zero x h is = subst (λ z. P (f z)) (sym is) h
  holds_of (y ∷ xs) (suc i) x h is = holds_of xs i x h is

pub many_branches : (rows : List Par) → length (branches_of rows) ≡ branch_count rows
many_branches [] = refl
many_branches (row ∷ rows) =
    let paired : Branch → Par × Branch = λ y. (row, y) in
    length-append (map paired row.branches) (branches_of rows)
    ∙ (let here = length-map row.branches paired in let others = many_branches rows in
    let count = count_cons row rows in
    let sum : length (map paired row.branches) + length (branches_of rows) ≡ branch_count (row ∷ rows) =
    omega arith in sum)

pub branch_missing : (c : Contents) (places : List Place) (n : ℕ) → ArePlaces c (branch_count c.pars) places
    → first_branch c ≤ n → length places ≤ n - first_branch c → numbered_branch c n ≡ None
branch_missing c places n h ge le =
    let many = h.many in
    let all = many_branches c.pars in
    rw (le-ltb n (first_branch c) ge) (slice_get_past (branches_of c.pars) (n - first_branch c) (omega arith))

module _ (t : Tables) (places : List Place) (i : ℕ) (place : Place)
    (h : ArePlaces (contents_of t) (branch_count (contents_of t).pars) places) (lt : i < length places)
    (is : place ≡ get_or places i place) where
  abbrev stands_in : Par → Type 0
  stands_in row = MatchOption (slice_get row.branches place.branch) ⊥
      (λ b. slice_get (branches_of (map par_of t.pars.items)) i ≡ Some (row, b))

  stands_here : MatchOption (slice_get (map par_of t.pars.items) place.par) ⊥ stands_in
  stands_here = (subst (λ (p : Place). IsPlace (contents_of t) i p) (sym is) (h.each i place lt)).stands

  pub par_inside : place.par < length t.pars.items
  par_inside = is_inside par_of _ t.pars.items place.par stands_here

  module _ (row : ParRow) (row_is : row ≡ get_or t.pars.items place.par row) where
    in_row : stands_in (par_of row)
    in_row = holds_of par_of stands_in t.pars.items place.par row stands_here row_is

    pub branch_inside : place.branch < length row.branches.items
    branch_inside = is_inside branch_of _ row.branches.items place.branch in_row

    pub place_stands : (b : BranchRow) → b ≡ get_or row.branches.items place.branch b
        → slice_get (branches_of (contents_of t).pars) i ≡ Some (par_of row, branch_of b)
    place_stands b b_is = holds_of branch_of (λ x. slice_get (branches_of (map par_of t.pars.items)) i ≡ Some
        (par_of row, x)) row.branches.items place.branch b in_row b_is

pub branch_found : (c : Contents) (n : ℕ) (x : Par × Branch) → first_branch c ≤ n
    → slice_get (branches_of c.pars) (n - first_branch c) ≡ Some x → numbered_branch c n ≡ Some x
branch_found c n x ge is = rw (le-ltb n (first_branch c) ge) is

-- ---- the branch that begins at an offset

-- the contexts can be counted in a word
pub contexts_fit : (c : Contents) → Keeps c → first_branch c + branch_count c.pars < 2 ^ 32
contexts_fit c keeps =
    let few = each (ParKeeps (first_branch c) (length c.code)) behind_par (λ row. length row.branches ≤ MAX_BRANCHES)
    (λ low row h. h.branch_limit) no_branches c.pars keeps.rows.pars in
    let most : branch_count c.pars ≤ length c.pars * MAX_BRANCHES =
    sum_by-le (λ row. length row.branches) MAX_BRANCHES c.pars (All-from_recursion _ c.pars few) in
    omega (arith, most, keeps.limits.procedures, keeps.limits.pars)

-- one entry more
pub number_more : (n : ℕ) (entries : List ℕ) (entry at : ℕ) → 1 ≤ n
    → number_from n (entries ++ entry ∷ []) at
    ≡ (if (number_from n entries at == 0) && (entry == at) then n + length entries else number_from n entries at)
number_more n [] entry at some = let here : n ≡ n + 0 = omega arith in ap (λ (m : ℕ). cond (eqb entry at) m 0) here
number_more n (e ∷ entries) entry at some =
    elim (eqb e at) as (λ b. cond b n (number_from (n + 1) (entries ++ entry ∷ []) at)
    ≡ cond (eqb (cond b n (number_from (n + 1) entries at)) 0 && eqb entry at) (n + length (e ∷ entries))
    (cond b n (number_from (n + 1) entries at))) [
      | true ↦ let differs : eqb n 0 ≡ false = grind (arith, nat_tests) in rw differs refl
      | false ↦ let count : (n + 1) + length entries ≡ n + suc (length entries) = omega arith in
          number_more (n + 1) entries entry at (omega arith)
          ∙ ap (λ (m : ℕ). cond (eqb (number_from (n + 1) entries at) 0 && eqb entry at) m
          (number_from (n + 1) entries at)) count
    ]

-- one branch more
pub numbers_more : (n : ℕ) (xs : List (Par × Branch)) (i : ℕ) (x : Par × Branch) (at old new : ℕ) → 1 ≤ n
    → slice_get xs i ≡ Some x → old ≡ number_from n (map (λ y. y.1.entry) (take i xs)) at
    → new ≡ (if (old == 0) && (x.1.entry == at) then n + i else old)
    → new ≡ number_from n (map (λ y. y.1.entry) (take (i + 1) xs)) at
numbers_more n xs i x at old new some is before now =
    let entry = λ (y : Par × Branch). y.1.entry in
    let entries = map entry (take i xs) in
    let lt = slice_get_within xs i x is in
    let long : length entries ≡ i = length-map (take i xs) entry ∙ length-take-le i xs (omega arith) in
    let longer : map entry (take (i + 1) xs) ≡ entries ++ x.1.entry ∷ [] =
    map_more entry xs i x lt ∙ ap (λ (y : Par × Branch). entries ++ entry y ∷ [])
    (get_or_from_slice_get xs i x x is) in
    now ∙ rw (before, longer, number_more n entries x.1.entry at some, long) refl

-- all branches have their numbers
pub numbers_all : (c : Contents) (places : List Place) (i at : ℕ) → ArePlaces c (branch_count c.pars) places
    → length places ≤ i
    → number_from (first_branch c) (map (λ y. y.1.entry) (take i (branches_of c.pars))) at
    ≡ number_from (first_branch c) (map (λ y. y.1.entry) (branches_of c.pars)) at
numbers_all c places i at h past =
    let many = h.many in
    let all = many_branches c.pars in
    ap (λ (xs : List (Par × Branch)). number_from (first_branch c) (map (λ y. y.1.entry) xs) at)
    (take_all i (branches_of c.pars) (omega arith))

-- with the number of its context v
abbrev pub forked : ℕ → Par × Branch → Forked
forked v x = record { context = v; par = x.0; branch = x.1 }

numbered_from : (xs : List (Par × Branch)) (n at : ℕ) → let v = number_from n (map (λ x. x.1.entry) xs) at in
    ((v ≡ 0) × (branch_from n xs at ≡ None))
    ⊎ ((n ≤ v) × (branch_from n xs at ≡ option_map (forked v) (slice_get xs (v - n))))
numbered_from [] n at = inl (refl, refl)
numbered_from (x ∷ xs) n at =
    elim (eqb x.1.entry at) as (λ b. let v = cond b n (number_from (n + 1) (map (λ x. x.1.entry) xs) at) in
    let begins = cond b (Some (forked n x)) (branch_from (n + 1) xs at) in
    ((v ≡ 0) × (begins ≡ None)) ⊎ ((n ≤ v) × (begins ≡ option_map (forked v) (slice_get (x ∷ xs) (v - n))))) [
      | true ↦ let none : 0 ≡ n - n =
          omega arith in inr (omega arith, ap (λ (i : ℕ). option_map (forked n) (slice_get (x ∷ xs) i)) none)
      | false ↦ elim (numbered_from xs (n + 1) at) [
        | inl none ↦ inl none
        | inr found ↦
            let v = number_from (n + 1) (map (λ x. x.1.entry) xs) at in
            let more : n + 1 ≤ v = found.0 in
            let next : suc (v - (n + 1)) ≡ v - n = omega arith in
            inr (omega arith, found.1 ∙ ap (λ (i : ℕ). option_map (forked v) (slice_get (x ∷ xs) i)) next)
      ]
    ]

-- looking up the branch of the number that is at an offset
pub branch_of_number : (c : Contents) (at : ℕ)
    → let v = number_from (first_branch c) (map (λ x. x.1.entry) (branches_of c.pars)) at in
    branch_at c at ≡ option_map (forked v) (numbered_branch c v)
branch_of_number c at = elim (numbered_from (branches_of c.pars) (first_branch c) at) [
  | inl none ↦ let below : ltb 0 (first_branch c) ≡ true =
      lt-ltb 0 (first_branch c) (omega arith) in rw (none.0, none.1, below) refl
  | inr found ↦ let v = number_from (first_branch c) (map (λ x. x.1.entry) (branches_of c.pars)) at in
      found.1 ∙ (let ge : ltb v (first_branch c) ≡ false = le-ltb v (first_branch c) found.0 in rw ge refl)
]

-- looking up the branch of the number that a table of numbers gives
pub branch_at_is : (c : Contents) (numbers : List ℕ) (at v : ℕ) → AreNumbers c numbers → v ≡ slice_index numbers at
    → branch_at c at ≡ option_map (forked v) (numbered_branch c v)
branch_at_is c numbers at v are is =
    let same : number_from (first_branch c) (map (λ x. x.1.entry) (branches_of c.pars)) at ≡ v = sym (is ∙ are at) in
    branch_of_number c at ∙ ap (λ (n : ℕ). option_map (forked n) (numbered_branch c n)) same
