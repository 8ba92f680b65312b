-- The numbers of a row and of a branch are small in a valid module.
use Rattle.std.proofs.Common.{◌≡◌, ℕ, ◌+◌, ◌^◌, ◌<◌, ◌≤◌, Bool, true, false, List, [], ◌∷◌, length, Option, Some, None}
use Rattle.std.proofs.Common.{if◌then◌else◌, refl, sym, ap, arith}
use Rattle.std.specs.Prelude.{◌==◌}
use Rattle.std.specs.List.{AllByRecursion}
use Rattle.module_format.specs.declared.limits.TheConstants.{MAX_BRANCHES}
use Rattle.module_format.specs.Contents.{Contents, Par, Branch}
use Rattle.module_format.specs.Contexts.{first_branch}
use Rattle.module_format.specs.Keeping.{Keeps}
use Rattle.module_format.specs.Pars.{ParKeeps, behind_par, no_branches}
use Rattle.module_format.proofs.OrderLaws.{each}
use Rattle.machine_state.specs.JoinLookups.{Found, found_in_row, found_from, found_at}

number_within : (target i : ℕ) (branches : List Branch) (x : ℕ × Branch) → found_in_row target i branches ≡ Some x
    → x.0 < i + length branches
number_within target i [] x e = absurd (cc)
number_within target i (b ∷ branches) x e = on (b.entry == target) e (number_within target (i + 1) branches x)
  where
    on : (is : Bool) → (if is then Some (i, b) else found_in_row target (i + 1) branches) ≡ Some x
        → (found_in_row target (i + 1) branches ≡ Some x → x.0 < i + 1 + length branches)
        → x.0 < i + length (b ∷ branches)
    on true e rest =
        let number : i ≡ x.0 =
        ap (λ (o : Option (ℕ × Branch)). elim o as (λ y. ℕ) [ None ↦ 0 | Some y ↦ y.0 ]) e in
        omega arith
    on false e rest = let later = rest e in omega arith

-- no row has more branches than these
abbrev FewBranches : Par → Type 0
FewBranches row = length row.branches ≤ MAX_BRANCHES

pub record IsSmall (rows : ℕ) (found : Found) : Type 0 where
  pub row : found.row < rows
  pub number : found.number < MAX_BRANCHES

found_within : (target r : ℕ) (pars : List Par) (found : Found) → AllByRecursion FewBranches pars
    → found_from target r pars ≡ Some found → IsSmall (r + length pars) found
found_within target r [] found few e = absurd (cc)
found_within target r (par ∷ pars) found few e =
    on (found_in_row target 0 par.branches) refl e (found_within target (r + 1) pars found few.1)
  where
    on : (o : Option (ℕ × Branch)) → found_in_row target 0 par.branches ≡ o
        → elim o as (λ x. Option Found) [
          | Some b ↦ Some (record { row = r; par = par; number = b.0; branch = b.1 })
          | None ↦ found_from target (r + 1) pars
        ] ≡ Some found
        → (found_from target (r + 1) pars ≡ Some found → IsSmall (r + 1 + length pars) found)
        → IsSmall (r + length (par ∷ pars)) found
    on (Some b) is e rest =
        let number = number_within target 0 par.branches b is in
        let here : found.row ≡ r =
        ap (λ (o : Option Found). elim o as (λ x. ℕ) [ None ↦ 0 | Some y ↦ y.row ]) (sym e) in
        let own : found.number ≡ b.0 =
        ap (λ (o : Option Found). elim o as (λ x. ℕ) [ None ↦ 0 | Some y ↦ y.number ]) (sym e) in
        record { row = omega arith; number = omega (arith, few.0) }
    on None is e rest = let later = rest e in record { row = omega (arith, later.row); number = later.number }

-- where a branch is can be counted in words
pub small_numbers : (c : Contents) (target : ℕ) (found : Found) → Keeps c → found_at c target ≡ Some found
    → (found.row < 2 ^ 32) × (found.number + 1 < 2 ^ 32)
small_numbers c target found keeps e =
    let few = each (ParKeeps (first_branch c) (length c.code)) behind_par FewBranches (λ low row h. h.branch_limit)
    no_branches c.pars keeps.rows.pars in
    let small = found_within target 0 c.pars found few e in
    (omega (arith, small.row, keeps.limits.pars), omega (arith, small.number))
