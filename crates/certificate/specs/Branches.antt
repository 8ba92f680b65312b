-- The branches of a module, by the numbers of their contexts.
use Rattle.std.specs.Prelude.{◌≡◌, ℕ, ◌+◌, ◌-◌, nat_lt, if◌then◌else◌, List, [], ◌∷◌, ◌==◌, slice_index, map, slice_get}
use Rattle.std.specs.Prelude.{Option, Some, None}
use Rattle.module_format.specs.Contents.{Branch, Par, Contents}
use Rattle.module_format.specs.Contexts.{first_branch}
use Rattle.module_format.specs.Places.{branches_of}

-- the branch that is context n, with its PAR row
abbrev pub numbered_branch : Contents → ℕ → Option (Par × Branch)
numbered_branch c n =
    if nat_lt n (first_branch c) then None else slice_get (branches_of c.pars) (n - first_branch c)

-- a branch that begins at an offset, with the number of its context and its PAR row
pub record Forked : Type 0 where
  pub context : ℕ
  pub par : Par
  pub branch : Branch

-- the branch that begins at an offset, where the first of these has context n
abbrev pub branch_from : ℕ → List (Par × Branch) → ℕ → Option Forked
branch_from n [] at = None
branch_from n (x ∷ xs) at =
    if x.1.entry == at then Some (record { context = n; par = x.0; branch = x.1 }) else branch_from (n + 1) xs at

abbrev pub branch_at : Contents → ℕ → Option Forked
branch_at c at = branch_from (first_branch c) (branches_of c.pars) at

-- the number of the entry that is this offset, where the first of these has number n; 0 where there is none
abbrev pub number_from : ℕ → List ℕ → ℕ → ℕ
number_from n [] at = 0
number_from n (entry ∷ entries) at = if entry == at then n else number_from (n + 1) entries at

-- at each offset the context of the branch that begins there, or 0
abbrev pub AreNumbers : Contents → List ℕ → Type 0
AreNumbers c numbers =
    (at : ℕ) → slice_index numbers at ≡ number_from (first_branch c) (map (λ x. x.1.entry) (branches_of c.pars)) at
