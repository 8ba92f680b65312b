-- A branch that was found, as the definitions have it.
use Rattle.std.specs.Prelude.{◌≡◌, ℕ, ◌+◌, ◌-◌, nat_lt, if◌then◌else◌, List, [], ◌∷◌, length, slice_get, Option}
use Rattle.std.specs.Prelude.{Some, None}
use Rattle.module_format.specs.Contents.{branch_of, par_of, Par, Contents}
use Rattle.certificate.specs.Branches.{numbered_branch}
use Rattle.machine_state.specs.JoinLookups.{Found}
use Rattle.par_rules.specs.declared.found.Found as kept
use Rattle.par_rules.specs.declared.found.InRow.{InRow}

abbrev pub found_view : kept.Found → Found
found_view f = record { row = f.row; par = par_of f.par.now; number = f.number; branch = branch_of f.branch.now }

-- the branch that was found is the one of its context
abbrev pub IsNumbered : Contents → kept.Found → Type 0
IsNumbered m f = numbered_branch m f.context ≡ Some (par_of f.par.now, branch_of f.branch.now)

-- its row is the one of this number
abbrev pub IsInRow : Contents → kept.Found → Type 0
IsInRow m f = slice_get m.pars f.row ≡ Some (par_of f.par.now)

-- where the branch is that has `before` branches before it, in rows of which the first has number `r`
abbrev pub place_from : ℕ → List Par → ℕ → Option InRow
place_from r [] before = None
place_from r (par ∷ pars) before =
    if nat_lt before (length par.branches) then Some (record { row = r; number = before })
    else place_from (r + 1) pars (before - length par.branches)
