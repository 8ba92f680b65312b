-- Where a branch is that is found by its context.
use Rattle.std.proofs.Common.{◌≡◌, ℕ, zero, suc, ◌+◌, ◌-◌, ◌^◌, ◌<◌, ◌≤◌, true, false, List, [], ◌∷◌, length, take}
use Rattle.std.proofs.Common.{Option, Some, None, refl, sym, ap, subst, ◌∙◌, arith, slice_get}
use Rattle.std.specs.Prelude.{nat_lt}
use Rattle.std.proofs.lemmas.Bool.{lt-ltb, le-ltb}
use Rattle.std.proofs.lemmas.Option.{slice_get_within}
use Rattle.small_laws.proofs.Lookups.{AllByRecursion_at}
use Rattle.module_format.specs.declared.limits.TheConstants.{MAX_BRANCHES}
use Rattle.module_format.specs.Contents.{Contents, Par, Branch}
use Rattle.module_format.specs.Contexts.{first_branch, branch_count}
use Rattle.module_format.specs.Keeping.{Keeps}
use Rattle.module_format.specs.Pars.{ParKeeps, behind_par, no_branches}
use Rattle.module_format.proofs.OrderLaws.{each}
use Rattle.module_format.proofs.PlaceLaws.{count_cons}
use Rattle.certificate.specs.Branches.{Forked, branch_at, numbered_branch}
use Rattle.machine_state.specs.BranchContexts.{context_of, AreFoundAlike, neither, both}
use Rattle.machine_state.specs.BranchContexts.{BranchesAreFoundAlike, BranchesAreContexts}
use Rattle.machine_state.specs.JoinLookups.{Found, found_at}
use Rattle.par_rules.specs.declared.found.InRow.{InRow}
use Rattle.par_rules.specs.Finding.{place_from}

-- ---- by rows

-- the branch with this number before it in its row is in that row
place-in-row : (r : ℕ) (pars : List Par) (k number : ℕ) (par : Par) → slice_get pars k ≡ Some par
    → number < length par.branches → (before : ℕ) → before ≡ branch_count (take k pars) + number
    → place_from r pars before ≡ Some (record { row = r + k; number = number })
place-in-row r [] k number par is low before e = absurd (cc)
place-in-row r (p ∷ pars) zero number par is low before e =
    let same : p ≡ par = ap (λ (o : Option Par). elim o as (λ x. Par) [ None ↦ par | Some q ↦ q ]) is in
    let here : before ≡ number = omega (arith, e) in
    let less : nat_lt before (length p.branches) ≡ true =
    lt-ltb before (length p.branches) (rw (same, here) low) in
    let row : r ≡ r + 0 = omega arith in
    rw less (rw here (ap (λ n. Some (record { row = n; number = number })) row))
place-in-row r (p ∷ pars) (suc k) number par is low before e =
    let count = count_cons p (take k pars) in
    let past : length p.branches ≤ before = omega (arith, e, count) in
    let no : nat_lt before (length p.branches) ≡ false = le-ltb before (length p.branches) past in
    let left : before - length p.branches ≡ branch_count (take k pars) + number = omega (arith, e, count) in
    let row : r + 1 + k ≡ r + suc k = omega arith in
    rw no (place-in-row (r + 1) pars k number par is low (before - length p.branches) left
    ∙ ap (λ n. Some (record { row = n; number = number })) row)

-- ---- small numbers

abbrev HasFewBranches : Par → Type 0
HasFewBranches par = length par.branches ≤ MAX_BRANCHES

-- the numbers of a row and of a branch can be counted in words
small : (m : Contents) (found : Found) → Keeps m → slice_get m.pars found.row ≡ Some found.par
    → slice_get found.par.branches found.number ≡ Some found.branch
    → (found.row < 2 ^ 32) × (found.number + 1 < 2 ^ 32)
small m found keeps row branch =
    let few = each (ParKeeps (first_branch m) (length m.code)) behind_par HasFewBranches (λ low par h. h.branch_limit)
    no_branches m.pars keeps.rows.pars in
    let in_row = slice_get_within found.par.branches found.number found.branch branch in
    let within = slice_get_within m.pars found.row found.par row in
    let limit : length found.par.branches ≤ MAX_BRANCHES =
    AllByRecursion_at HasFewBranches m.pars found.row found.par few row in
    (omega (arith, within, keeps.limits.pars), omega (arith, in_row, limit))

-- ---- by contexts

-- What is found by the context of a branch, with `before` branches before it.
pub record IsFound (m : Contents) (target : ℕ) (f : Forked) (before : ℕ) : Type 0 where
  pub found : Found
  pub is : found_at m target ≡ Some found
  pub context : f.context ≡ context_of m found
  pub par : found.par ≡ f.par
  pub branch : found.branch ≡ f.branch
  pub row : slice_get m.pars found.row ≡ Some found.par
  pub place : place_from 0 m.pars before ≡ Some (record { row = found.row; number = found.number })
  pub small : (found.row < 2 ^ 32) × (found.number + 1 < 2 ^ 32)
  pub by_context : BranchesAreContexts
      → numbered_branch m (context_of m found) ≡ Some (found.par, found.branch)

abbrev forked_or : Forked → Option Forked → Forked
forked_or f o = elim o as (λ x. Forked) [ None ↦ f | Some g ↦ g ]

pub branch_is_found : (m : Contents) (target : ℕ) (f : Forked) (before : ℕ) → Keeps m
    → AreFoundAlike m (branch_at m target) (found_at m target) → branch_at m target ≡ Some f
    → f.context ≡ first_branch m + before → IsFound m target f before
branch_is_found m target f before keeps alike is at = on (branch_at m target) (found_at m target) alike refl is
  where
    on : (x : Option Forked) (y : Option Found) → AreFoundAlike m x y → found_at m target ≡ y → x ≡ Some f
        → IsFound m target f before
    on x y neither y_is x_is = absurd (cc)
    on x y (both found row branch) y_is x_is =
        let same = ap (forked_or f) x_is in
        let context : f.context ≡ context_of m found = sym (ap (λ (g : Forked). g.context) same) in
        let here : before ≡ branch_count (take found.row m.pars) + found.number = omega (arith, context, at) in
        let row_is : 0 + found.row ≡ found.row = omega arith in
        record {
          found = found;
          is = y_is;
          context = context;
          par = ap (λ (g : Forked). g.par) same;
          branch = ap (λ (g : Forked). g.branch) same;
          row = row;
          place = place-in-row 0 m.pars found.row found.number found.par row
              (slice_get_within found.par.branches found.number found.branch branch) before here
              ∙ ap (λ (n : ℕ). Some (record { row = n; number = found.number })) row_is;
          small = small m found keeps row branch;
          by_context = λ law. (law m found keeps row branch).numbered;
        }

-- the context of a branch is after those of the root and the procedures
pub branch_is_after : (m : Contents) (target : ℕ) (f : Forked)
    → AreFoundAlike m (branch_at m target) (found_at m target) → branch_at m target ≡ Some f
    → first_branch m ≤ f.context
branch_is_after m target f alike is = on (branch_at m target) (found_at m target) alike is
  where
    on : (x : Option Forked) (y : Option Found) → AreFoundAlike m x y → x ≡ Some f → first_branch m ≤ f.context
    on x y neither x_is = absurd (cc)
    on x y (both found row branch) x_is =
        let context : f.context ≡ context_of m found =
        sym (ap (λ (g : Forked). g.context) (ap (forked_or f) x_is)) in
        omega (arith, context)

-- where no branch begins, none is found
pub nothing_is_found : (m : Contents) (target : ℕ) → AreFoundAlike m (branch_at m target) (found_at m target)
    → branch_at m target ≡ None → found_at m target ≡ None
nothing_is_found m target alike is = on (branch_at m target) (found_at m target) alike is
  where
    on : (x : Option Forked) (y : Option Found) → AreFoundAlike m x y → x ≡ None → y ≡ None
    on x y neither x_is = refl
    on x y (both found row branch) x_is = absurd (cc)

-- what a search for the row of a branch returns
pub record IsHere (m : Contents) (target context : ℕ) (par : Par) (branch : Branch) (place : InRow) : Type 0 where
  pub is : found_at m target
      ≡ Some (record { row = place.row; par = par; number = place.number; branch = branch })
  pub numbered : context
      ≡ context_of m (record { row = place.row; par = par; number = place.number; branch = branch })
  pub row : slice_get m.pars place.row ≡ Some par
  pub small : (place.row < 2 ^ 32) × (place.number + 1 < 2 ^ 32)
  pub by_context : BranchesAreContexts → numbered_branch m context ≡ Some (par, branch)

abbrev pub Answered : Contents → ℕ → ℕ → Par → Branch → Option InRow → Type 0
Answered m target context par branch None = ⊥
Answered m target context par branch (Some place) = IsHere m target context par branch place

pub branch_is_answered : (m : Contents) (target context : ℕ) (par : Par) (branch : Branch) (p q : Option InRow)
    → BranchesAreFoundAlike → Keeps m
    → branch_at m target ≡ Some (record { context = context; par = par; branch = branch })
    → ((before : ℕ) → context ≡ first_branch m + before → p ≡ place_from 0 m.pars before) → p ≡ q
    → Answered m target context par branch q
branch_is_answered m target context par branch p q alike keeps is place same =
    let f : Forked = record { context = context; par = par; branch = branch } in
    let after = branch_is_after m target f (alike m target) is in
    let before : ℕ = context - first_branch m in
    let at : context ≡ first_branch m + before = omega (arith, after) in
    on (branch_is_found m target f before keeps (alike m target) is at) (place before at)
  where
    on : {before : ℕ} → IsFound m target (record { context = context; par = par; branch = branch }) before
        → p ≡ place_from 0 m.pars before → Answered m target context par branch q
    on found p_is =
        let x = found.found in
        let q_is : q ≡ Some (record { row = x.row; number = x.number }) = sym same ∙ (p_is ∙ found.place) in
        let there : x ≡ record { row = x.row; par = par; number = x.number; branch = branch } =
        ap (λ (y : Par). record { row = x.row; par = y; number = x.number; branch = x.branch }) found.par
        ∙ ap (λ (y : Branch). record { row = x.row; par = par; number = x.number; branch = y }) found.branch in
        subst (Answered m target context par branch) (sym q_is) (record {
          is = found.is ∙ ap (λ (y : Found). Some y) there;
          numbered = found.context ∙ ap (λ (y : Found). context_of m y) there;
          row = found.row ∙ ap (λ (y : Par). Some y) found.par;
          small = found.small;
          by_context = λ law. ap (numbered_branch m) found.context ∙ found.by_context law
              ∙ ap (λ (y : Par). Some (y, x.branch)) found.par ∙ ap (λ (y : Branch). Some (par, y)) found.branch;
        })
