-- The branch that a start finds by its row is the one that the tables find by its context.
use Rattle.std.proofs.Common.{◌≡◌, ℕ, zero, suc, ◌+◌, ◌-◌, ◌<◌, ◌≤◌, Bool, true, false, List, [], ◌∷◌, ◌++◌, length}
use Rattle.std.proofs.Common.{map, take, Option, Some, None, refl, sym, ap, ◌∙◌, subst, slice_get, arith}
use Rattle.std.proofs.Common.{if◌then◌else◌}
use Rattle.std.proofs.lemmas.Bool.{lt-ltb, le-ltb}
use Rattle.std.proofs.lemmas.Option.{slice_get_within}
use Rattle.std.specs.Prelude.{◌==◌, nat_lt}
use Rattle.module_format.specs.Contents.{Contents, Par, Branch}
use Rattle.module_format.specs.Contexts.{first_branch, branch_count, owner, context_at, parameters_at, own_context}
use Rattle.module_format.specs.Contexts.{own_parameters}
use Rattle.module_format.specs.Keeping.{Keeps}
use Rattle.module_format.specs.Pars.{no_branches}
use Rattle.module_format.specs.Places.{branches_of}
use Rattle.module_format.proofs.PlaceLaws.{owner_of_branch, context_before, branch_stands, count_cons}
use Rattle.certificate.specs.Branches.{Forked, branch_from, numbered_branch}
use Rattle.machine_state.specs.JoinLookups.{Found, found_in_row, found_from}
use Rattle.machine_state.specs.BranchContexts.{context_of, AreFoundAlike, neither, both, BranchesAreFoundAlike}
use Rattle.machine_state.specs.BranchContexts.{IsContextOf, BranchesAreContexts}

-- ---- both find the first

-- what the branches of one row come to, before the others
data InRow (target first i : ℕ) (par : Par) (bs : List Branch) (rest : List (Par × Branch)) : Option (ℕ × Branch)
    → Option Forked → Type 0 where
  no_branch : InRow target first i par bs rest None (branch_from (first + length bs) rest target)
  this_branch : (n : ℕ) (x : Branch) → slice_get bs n ≡ Some x → InRow target first i par bs rest (Some (i + n, x))
      (Some (record { context = first + n; par = par; branch = x }))

in_row : (target first i : ℕ) (par : Par) (bs : List Branch) (rest : List (Par × Branch))
    → InRow target first i par bs rest (found_in_row target i bs)
    (branch_from first (map (λ b. (par, b)) bs ++ rest) target)
in_row target first i par [] rest =
    let same : first + 0 ≡ first = omega arith in
    subst (λ n. InRow target first i par [] rest None (branch_from n rest target)) same no_branch
in_row target first i par (b ∷ bs) rest = on (in_row target (first + 1) (i + 1) par bs rest) (b.entry == target)
  where
    later : (x : Option (ℕ × Branch)) (y : Option Forked) → InRow target (first + 1) (i + 1) par bs rest x y
        → InRow target first i par (b ∷ bs) rest x y
    later x y no_branch =
        let same : first + length (b ∷ bs) ≡ first + 1 + length bs = omega arith in
        subst (λ n. InRow target first i par (b ∷ bs) rest None (branch_from n rest target)) same no_branch
    later x y (this_branch n z here) =
        let number : i + suc n ≡ i + 1 + n = omega arith in
        let context : first + suc n ≡ first + 1 + n = omega arith in
        subst (λ k. InRow target first i par (b ∷ bs) rest (Some (k, z))
        (Some (record { context = first + 1 + n; par = par; branch = z }))) number
        (subst (λ k. InRow target first i par (b ∷ bs) rest (Some (i + suc n, z))
        (Some (record { context = k; par = par; branch = z }))) context (this_branch (suc n) z here))

    this : InRow target first i par (b ∷ bs) rest (Some (i, b))
        (Some (record { context = first; par = par; branch = b }))
    this =
        let number : i + 0 ≡ i = omega arith in
        let context : first + 0 ≡ first = omega arith in
        subst (λ k. InRow target first i par (b ∷ bs) rest (Some (k, b))
        (Some (record { context = first; par = par; branch = b }))) number
        (subst (λ k. InRow target first i par (b ∷ bs) rest (Some (i + 0, b))
        (Some (record { context = k; par = par; branch = b }))) context (this_branch 0 b refl))

    on : InRow target (first + 1) (i + 1) par bs rest (found_in_row target (i + 1) bs)
        (branch_from (first + 1) (map (λ b. (par, b)) bs ++ rest) target) → (t : Bool)
        → InRow target first i par (b ∷ bs) rest
        (if t then Some (i, b) else found_in_row target (i + 1) bs)
        (if t then Some (record { context = first; par = par; branch = b })
        else branch_from (first + 1) (map (λ b. (par, b)) bs ++ rest) target)
    on further true = this
    on further false = later _ _ further

-- what all rows come to, where the first has number r
data InRows (first r : ℕ) (pars : List Par) : Option Found → Option Forked → Type 0 where
  in_none : InRows first r pars None None
  in_this : (k n : ℕ) (par : Par) (x : Branch) → slice_get pars k ≡ Some par → slice_get par.branches n ≡ Some x
      → InRows first r pars (Some (record { row = r + k; par = par; number = n; branch = x }))
      (Some (record { context = first + branch_count (take k pars) + n; par = par; branch = x }))

in_rows : (target first r : ℕ) (pars : List Par)
    → InRows first r pars (found_from target r pars) (branch_from first (branches_of pars) target)
in_rows target first r [] = in_none
in_rows target first r (par ∷ pars) =
    on (in_rows target (first + length par.branches) (r + 1) pars) _ _
    (in_row target first 0 par par.branches (branches_of pars))
  where
    later : (x : Option Found) (y : Option Forked) → InRows (first + length par.branches) (r + 1) pars x y
        → InRows first r (par ∷ pars) x y
    later x y in_none = in_none
    later x y (in_this k n q z row branch) =
        let count = count_cons par (take k pars) in
        let number : r + suc k ≡ r + 1 + k = omega arith in
        let context : first + branch_count (take (suc k) (par ∷ pars)) + n
        ≡ first + length par.branches + branch_count (take k pars) + n = omega (arith, count) in
        subst (λ i. InRows first r (par ∷ pars) (Some (record { row = i; par = q; number = n; branch = z }))
        (Some (record {
          context = first + length par.branches + branch_count (take k pars) + n;
          par = q;
          branch = z;
        }))) number
        (subst (λ i. InRows first r (par ∷ pars) (Some (record { row = r + suc k; par = q; number = n; branch = z }))
        (Some (record { context = i; par = q; branch = z }))) context (in_this (suc k) n q z row branch))

    on : InRows (first + length par.branches) (r + 1) pars (found_from target (r + 1) pars)
        (branch_from (first + length par.branches) (branches_of pars) target)
        → (x : Option (ℕ × Branch)) (y : Option Forked) → InRow target first 0 par par.branches (branches_of pars) x y
        → InRows first r (par ∷ pars) (elim x as (λ x. Option Found) [
          | Some b ↦ Some (record { row = r; par = par; number = b.0; branch = b.1 })
          | None ↦ found_from target (r + 1) pars
        ]) y
    on further x y no_branch = later _ _ further
    on further x y (this_branch n z here) =
        let row : r + 0 ≡ r = omega arith in
        let number : n ≡ 0 + n = omega arith in
        let context : first + branch_count (take 0 (par ∷ pars)) + n ≡ first + n = omega arith in
        subst (λ k. InRows first r (par ∷ pars) (Some (record { row = k; par = par; number = 0 + n; branch = z }))
        (Some (record { context = first + n; par = par; branch = z }))) row
        (subst (λ k. InRows first r (par ∷ pars) (Some (record { row = r + 0; par = par; number = k; branch = z }))
        (Some (record { context = first + n; par = par; branch = z }))) number
        (subst (λ k. InRows first r (par ∷ pars) (Some (record { row = r + 0; par = par; number = n; branch = z }))
        (Some (record { context = k; par = par; branch = z }))) context (in_this 0 n par z refl here)))

pub branches_are_found_alike : BranchesAreFoundAlike
branches_are_found_alike m target = on _ _ (in_rows target (first_branch m) 0 m.pars)
  where
    on : (x : Option Found) (y : Option Forked) → InRows (first_branch m) 0 m.pars x y → AreFoundAlike m y x
    on x y in_none = neither
    on x y (in_this k n par z row branch) =
        let number : k ≡ 0 + k = omega arith in
        subst (λ i. AreFoundAlike m
        (Some (record { context = first_branch m + branch_count (take k m.pars) + n; par = par; branch = z }))
        (Some (record { row = i; par = par; number = n; branch = z }))) number
        (both (record { row = k; par = par; number = n; branch = z }) row branch)

-- ---- the context of a branch

inside : (rows : List Par) (k b : ℕ) (row : Par) → slice_get rows k ≡ Some row → b < length row.branches
    → branch_count (take k rows) + b < branch_count rows
inside [] k b row is low = absurd (cc)
inside (r ∷ rows) zero b row is low =
    let same : r ≡ row = cc in
    let long : length r.branches ≡ length row.branches = ap (λ (x : Par). length x.branches) same in
    let count = count_cons r rows in
    omega (arith, low, long, count)
inside (r ∷ rows) (suc k) b row is low =
    let count = count_cons r rows in
    let before = count_cons r (take k rows) in
    let further = inside rows k b row is low in
    omega (arith, count, before, further)

module _ (m : Contents) (found : Found) (keeps : Keeps m) (row : slice_get m.pars found.row ≡ Some found.par)
    (here : slice_get found.par.branches found.number ≡ Some found.branch) where
  low : found.number < length found.par.branches
  low = slice_get_within found.par.branches found.number found.branch here

  place : context_of m found ≡ first_branch m + (branch_count (take found.row m.pars) + found.number)
  place = omega arith

  earlier : found.par.context < first_branch m + branch_count (take found.row m.pars)
  earlier =
      let e = context_before (first_branch m) (length m.code) no_branches m.pars found.row found.par keeps.rows.pars row
      in omega (arith, e)

  below_all : branch_count (take found.row m.pars) + found.number < branch_count m.pars
  below_all = inside m.pars found.row found.number found.par row low

  same_owner : owner (first_branch m) m.pars (context_of m found) ≡ owner (first_branch m) m.pars found.par.context
  same_owner = ap (owner (first_branch m) m.pars) place
      ∙ owner_of_branch (first_branch m) m.pars found.row found.number found.par row low earlier

  both_low : (nat_lt (context_of m found) (first_branch m + branch_count m.pars) ≡ true)
      × (nat_lt found.par.context (first_branch m + branch_count m.pars) ≡ true)
  both_low =
      let all = below_all in
      let first = earlier in (
        lt-ltb (context_of m found) (first_branch m + branch_count m.pars) (omega (arith, all)),
        lt-ltb found.par.context
            (first_branch m + branch_count m.pars) (omega (arith, all, first)),
      )

  same_context : context_at m (context_of m found) ≡ context_at m found.par.context
  unfolding context_at
  same_context = ap (λ (b : Bool). if b
      then own_context m (owner (first_branch m) m.pars (context_of m found)) else None) both_low.0
      ∙ (ap (own_context m) same_owner
      ∙ sym (ap (λ (b : Bool). if b
      then own_context m (owner (first_branch m) m.pars found.par.context) else None) both_low.1))

  same_parameters : parameters_at m (context_of m found) ≡ parameters_at m found.par.context
  unfolding parameters_at
  same_parameters = ap (λ (b : Bool). if b
      then own_parameters m (owner (first_branch m) m.pars (context_of m found)) else []) both_low.0
      ∙ (ap (own_parameters m) same_owner
      ∙ sym (ap (λ (b : Bool). if b
      then own_parameters m (owner (first_branch m) m.pars found.par.context) else []) both_low.1))

  is_numbered : numbered_branch m (context_of m found) ≡ Some (found.par, found.branch)
  is_numbered =
      let after : first_branch m ≤ context_of m found = omega arith in
      let number : context_of m found - first_branch m ≡ branch_count (take found.row m.pars) + found.number =
      omega arith in
      ap (λ (b : Bool). if b then None else slice_get (branches_of m.pars) (context_of m found - first_branch m))
      (le-ltb (context_of m found) (first_branch m) after)
      ∙ (ap (slice_get (branches_of m.pars)) number
      ∙ branch_stands m.pars found.row found.number found.par found.branch row here)

  pub has_its_context : IsContextOf m found
  has_its_context = record {
    numbered = is_numbered;
    after = (let e = earlier in omega (arith, e));
    owner = same_owner;
    context = same_context;
    parameters = same_parameters;
  }

pub branches_are_contexts : BranchesAreContexts
branches_are_contexts m found keeps row here = has_its_context m found keeps row here
