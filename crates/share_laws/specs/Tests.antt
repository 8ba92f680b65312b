-- The tests of a start, and what holdings have to do with each other after it.
use Rattle.std.specs.Prelude.{◌≡◌, ℕ, ℤ, true, List, length, Option}
use Rattle.module_format.specs.Contents.{Contents}
use Rattle.module_format.specs.Contexts.{parameters_at}
use Rattle.machine_state.specs.BranchShares.{frame_address}
use Rattle.machine_state.specs.Holding.{Holding, IsApart}
use Rattle.machine_state.specs.JoinLookups.{Found}
use Rattle.machine_state.specs.Memory.{Memory}
use Rattle.machine_state.specs.StartPlans.{Plan, ends_are_there, share_is_there}
use Rattle.rulings.specs.Meaning.{Layout}
use Rattle.share_laws.specs.Starts.{CanStart, held_by_branch, held_by_starter}

-- the ends of a share are there, its bytes are held, and the words that scheduling takes are the branch's own
pub record ShareIsThere (plan : Plan) (found : Found) (memory : Memory) : Type 0 where
  pub ends : ends_are_there plan found.branch ≡ true
  pub share : share_is_there (length memory) plan (frame_address plan.base found.branch.workspace) found.branch ≡ true

abbrev pub SharesAreThere : Type 0
SharesAreThere = (m : Contents) (found : Found) (layout : Layout) (plan : Plan) (memory : Memory) (depth : ℤ)
    (workspace : ℕ) → plan.parameters ≡ parameters_at m found.par.context
    → CanStart m found layout plan.base plan.addresses plan.rest memory depth workspace
    → ShareIsThere plan found memory

-- what the branch holds and what is left to its starter do not meet
abbrev pub BranchesAreApart : Type 0
BranchesAreApart = (m : Contents) (found : Found) (layout : Layout) (base : ℕ) (addresses : List (Option ℕ))
    (h : Holding) (memory : Memory) (depth : ℤ) (workspace : ℕ)
    → CanStart m found layout base addresses h memory depth workspace
    → IsApart (held_by_branch m found base addresses (length memory))
    (held_by_starter m found base addresses h (length memory))
