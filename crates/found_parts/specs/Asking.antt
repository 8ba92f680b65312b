-- What `starts_branch` of `par_rules` asks by rules V7 and V12, of a branch that is found.
use Rattle.std.specs.Prelude.{◌≡◌, ◌&&◌, Bool, false, slice_get, Some, is_some}
use Rattle.module_format.specs.Contents.{Contents, label_at}
use Rattle.certificate.specs.Branches.{Forked}
use Rattle.machine_state.specs.BranchContexts.{context_of}
use Rattle.machine_state.specs.JoinLookups.{Found}
use Rattle.states.specs.State.{State}
use Rattle.par_rules.specs.ParRules.{is_apart, is_in_turn, may_give, at_first, may_open}
use Rattle.found_parts.specs.declared.faults.StartFault.{StartFault}
use Rattle.found_parts.specs.declared.sharing.Shared.{Shared}
use Rattle.found_parts.specs.Starts.{start_fault}
use Rattle.found_parts.specs.Sharing.{shared_in}

-- a branch that is found by its row, as one that begins at an offset
abbrev pub forked : Contents → Found → Forked
forked m found = record { context = context_of m found; par = found.par; branch = found.branch }

-- the branch is where it is said to be
pub record IsThere (m : Contents) (found : Found) : Type 0 where
  pub row : slice_get m.pars found.row ≡ Some found.par
  pub number : slice_get found.par.branches found.number ≡ Some found.branch

-- all is so that is asked
abbrev pub may_start : Contents → State → Found → Bool
may_start m s found =
    is_in_turn s s.stack.a.fact found && may_give m s found && at_first s.mode (may_open m s found.par)
    && is_some (label_at m found.branch.entry)

-- where a condition is named, not all is so
abbrev pub NamedIsUnmet : Type 0
NamedIsUnmet = (m : Contents) (s : State) (found : Found) (fault : StartFault) → IsThere m found
    → start_fault m s (forked m found) ≡ Some fault → may_start m s found ≡ false

-- where something is named that is shared, the branch is not apart from those that are started
abbrev pub NamedIsShared : Type 0
NamedIsShared = (m : Contents) (s : State) (found : Found) (shared : Shared)
    → shared_in m s found.branch ≡ Some shared → is_apart m s found ≡ false
