-- A branch that is found by where it begins is the first of its row that begins there.
use Rattle.std.proofs.Common.{◌≡◌, ℕ, zero, suc, ◌+◌, ◌<◌, ◌==◌, Bool, true, false, List, [], ◌∷◌, Option, Some, None}
use Rattle.std.proofs.Common.{refl, sym, ap, ◌∙◌, subst, arith, eqb-true, if◌then◌else◌}
use Rattle.std.specs.Prelude.{slice_get}
use Rattle.module_format.specs.Contents.{Contents, Par, Branch}
use Rattle.certificate.specs.Branches.{Forked, branch_at}
use Rattle.machine_state.specs.BranchContexts.{AreFoundAlike, neither, both}
use Rattle.machine_state.specs.JoinLookups.{Found, found_in_row, found_from, found_at}
use Rattle.machine_state.proofs.FoundContexts.{branches_are_found_alike}
use Rattle.share_laws.specs.Shares.{IsBranch}

-- The branch of this number begins there, and none before it does.
record IsFirst (target i : ℕ) (bs : List Branch) (number : ℕ) (b : Branch) : Type 0 where
  begins : (b.entry == target) ≡ true
  before : (n : ℕ) (other : Branch) → i + n < number → slice_get bs n ≡ Some other → (other.entry == target) ≡ false

first_in_row : (target i : ℕ) (bs : List Branch) (number : ℕ) (b : Branch)
    → found_in_row target i bs ≡ Some (number, b) → IsFirst target i bs number b
first_in_row target i [] number b h = absurd (cc)
first_in_row target i (x ∷ xs) number b h =
    on (first_in_row target (i + 1) xs number b) (x.entry == target) refl h
  where
    on : (found_in_row target (i + 1) xs ≡ Some (number, b) → IsFirst target (i + 1) xs number b) → (t : Bool)
        → (x.entry == target) ≡ t
        → ◌≡◌ {A = Option (ℕ × Branch)} (if t then Some (i, x) else found_in_row target (i + 1) xs) (Some (number, b))
        → IsFirst target i (x ∷ xs) number b
    on rest true e h =
        let pair = ap (λ (o : Option (ℕ × Branch)). elim o as (λ o. ℕ × Branch) [ None ↦ (i, x) | Some p ↦ p ]) h in
        let same : i ≡ number = ap (λ (p : ℕ × Branch). p.0) pair in
        let it : x ≡ b = ap (λ (p : ℕ × Branch). p.1) pair in
        record {
          begins = ap (λ (y : Branch). y.entry == target) (sym it) ∙ e;
          before = λ n other low there. absurd (omega (arith, low, same));
        }
    on rest false e h =
        let r = rest h in
        record { begins = r.begins; before = earlier r.before }
      where
        earlier : ((n : ℕ) (other : Branch) → i + 1 + n < number → slice_get xs n ≡ Some other
            → (other.entry == target) ≡ false) → (n : ℕ) (other : Branch) → i + n < number
            → slice_get (x ∷ xs) n ≡ Some other → (other.entry == target) ≡ false
        earlier before zero other low there =
            let same : x ≡ other = cc in ap (λ (y : Branch). y.entry == target) (sym same) ∙ e
        earlier before (suc n) other low there = before n other (omega (arith, low)) there

-- in its row
first_in_rows : (target r : ℕ) (pars : List Par) (found : Found) → found_from target r pars ≡ Some found
    → IsFirst target 0 found.par.branches found.number found.branch
first_in_rows target r [] found h = absurd (cc)
first_in_rows target r (par ∷ pars) found h =
    on (first_in_rows target (r + 1) pars found) (found_in_row target 0 par.branches) refl h
  where
    on : (found_from target (r + 1) pars ≡ Some found
        → IsFirst target 0 found.par.branches found.number found.branch) → (o : Option (ℕ × Branch))
        → found_in_row target 0 par.branches ≡ o
        → ◌≡◌ {A = Option Found} (elim o as (λ o. Option Found) [
          | Some b ↦ Some (record { row = r; par = par; number = b.0; branch = b.1 })
          | None ↦ found_from target (r + 1) pars
        ]) (Some found) → IsFirst target 0 found.par.branches found.number found.branch
    on rest None e h = rest h
    on rest (Some b) e h =
        let f : Found = record { row = r; par = par; number = b.0; branch = b.1 } in
        let same : f ≡ found =
        ap (λ (o : Option Found). elim o as (λ o. Found) [ None ↦ f | Some g ↦ g ]) h in
        subst (λ (g : Found). IsFirst target 0 g.par.branches g.number g.branch) same
        (first_in_row target 0 par.branches b.0 b.1 e)

-- What a start finds is a branch, and none before it in its row begins where it does.
pub record IsFoundFirst (m : Contents) (found : Found) : Type 0 where
  pub is : IsBranch m found
  pub differs : (n : ℕ) (other : Branch) → n < found.number → slice_get found.par.branches n ≡ Some other
      → (other.entry == found.branch.entry) ≡ false

branch_is : (m : Contents) (target : ℕ) (found : Found) (x : Option Forked) (y : Option Found) → AreFoundAlike m x y
    → y ≡ Some found → IsBranch m found
branch_is m target found x y neither h = absurd (cc)
branch_is m target found x y (both f row branch) h =
    let same : f ≡ found = ap (λ (o : Option Found). elim o as (λ o. Found) [ None ↦ f | Some g ↦ g ]) h in
    subst (λ (g : Found). IsBranch m g) same (record { row = row; branch = branch })

pub found_first : (m : Contents) (target : ℕ) (found : Found) → found_at m target ≡ Some found
    → IsFoundFirst m found
found_first m target found h =
    let first = first_in_rows target 0 m.pars found h in
    let entry : found.branch.entry ≡ target = eqb-true found.branch.entry target first.begins in
    record {
      is = branch_is m target found (branch_at m target) (found_at m target) (branches_are_found_alike m target) h;
      differs = λ n other low there. ap (λ (e : ℕ). other.entry == e) entry
          ∙ first.before n other (let less : 0 + n < found.number = omega (arith, low) in less) there;
    }
