-- Who is a member of an open join, and how many of its branches are started.
use Rattle.std.specs.Prelude.{◌≡◌, ℕ, ◌+◌, ◌<◌, ◌≤◌, Some, List, length, slice_get}
use Rattle.module_format.specs.Contents.{Contents, Par}
use Rattle.machine_state.specs.declared.event.Event.{Event}
use Rattle.machine_state.specs.Happens.{world_after}
use Rattle.machine_state.specs.JoinLookups.{opened_by}
use Rattle.machine_state.specs.Ownership.{IsAmong}
use Rattle.machine_state.specs.Waiting.{AllDiffer}
use Rattle.machine_state.specs.World.{Join}

-- The members of a join that the process p has open differ and have numbers below this one: there are p and the
-- branches that are started, at most. No more branches are started than the row of the PAR has, and all of them once p
-- is no member.
pub record HasMembers (m : Contents) (size p : ℕ) (j : Join) : Type 0 where
  pub differ : AllDiffer j.members
  pub processes : (q : ℕ) → IsAmong q j.members → q < size
  pub most : length j.members ≤ j.started + 1
  pub started : (par : Par) → slice_get m.pars j.row ≡ Some par → j.started ≤ length par.branches
  pub all_started : (par : Par) → slice_get m.pars j.row ≡ Some par → (IsAmong p j.members → ⊥)
      → j.started ≡ length par.branches

-- so it is of each open join, whose members are processes
abbrev pub JoinsHaveMembers : Type 0
JoinsHaveMembers = (m : Contents) (es : List Event) (p : ℕ) (j : Join) → let w = world_after m es in
    opened_by w p ≡ Some j → HasMembers m (length w.tasks) p j
