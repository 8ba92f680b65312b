-- The branch that a start finds is the one of its context.
use Rattle.std.specs.Prelude.{◌≡◌, ℕ, ◌+◌, ◌<◌, Option, Some, None, slice_get}
use Rattle.module_format.specs.Contents.{Contents}
use Rattle.module_format.specs.Contexts.{first_branch, owner, context_at, parameters_at}
use Rattle.module_format.specs.Keeping.{Keeps}
use Rattle.module_format.specs.Places.{rows_end}
use Rattle.certificate.specs.Branches.{Forked, branch_at, numbered_branch}
use Rattle.machine_state.specs.JoinLookups.{Found, found_at}

-- the number of the context of a branch
abbrev pub context_of : Contents → Found → ℕ
context_of m found = rows_end m found.row + found.number

-- what the tables say of a branch that begins at a code offset: by its context, and by its row
pub data AreFoundAlike (m : Contents) : Option Forked → Option Found → Type 0 where
  neither : AreFoundAlike m None None
  both : (found : Found) → slice_get m.pars found.row ≡ Some found.par
      → slice_get found.par.branches found.number ≡ Some found.branch
      → AreFoundAlike m (Some (record { context = context_of m found; par = found.par; branch = found.branch }))
      (Some found)

abbrev pub BranchesAreFoundAlike : Type 0
BranchesAreFoundAlike = (m : Contents) (target : ℕ) → AreFoundAlike m (branch_at m target) (found_at m target)

-- the context of a branch: it comes after that of its PAR, and has the same frame and parameters
pub record IsContextOf (m : Contents) (found : Found) : Type 0 where
  pub numbered : numbered_branch m (context_of m found) ≡ Some (found.par, found.branch)
  pub after : found.par.context < context_of m found
  pub owner : owner (first_branch m) m.pars (context_of m found) ≡ owner (first_branch m) m.pars found.par.context
  pub context : context_at m (context_of m found) ≡ context_at m found.par.context
  pub parameters : parameters_at m (context_of m found) ≡ parameters_at m found.par.context

abbrev pub BranchesAreContexts : Type 0
BranchesAreContexts = (m : Contents) (found : Found) → Keeps m → slice_get m.pars found.row ≡ Some found.par
    → slice_get found.par.branches found.number ≡ Some found.branch → IsContextOf m found
