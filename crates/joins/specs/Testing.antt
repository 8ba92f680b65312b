-- What a start tests, and what the tests find.
use Rattle.std.specs.Prelude.{◌≡◌, ⊤, ℕ, ◌==◌, if◌then◌else◌, Bool, List, Option, Some, None, Result, Ok, Err}
use Rattle.std.specs.Option.{option_map}
use Rattle.module_format.specs.Contents.{Contents}
use Rattle.machine_state.specs.declared.fault.FaultKind.{FaultKind}
use Rattle.machine_state.specs.Faults.{fault_in}
use Rattle.machine_state.specs.JoinLookups.{Found, opened_by}
use Rattle.machine_state.specs.Joins.{first_start_turn, later_start_turn}
use Rattle.machine_state.specs.StartPlans.{later_plan, later_faults, no_row_faults}
use Rattle.machine_state.specs.Site.{Local}
use Rattle.machine_state.specs.Turn.{Here as At, Turn}
use Rattle.machine_state.specs.World.{World, Join}
use Rattle.traffic.specs.declared.here.Here.{Here}
use Rattle.traffic.specs.declared.stop.Stop.{Stop}
use Rattle.traffic.specs.declared.stop.Stop.TheVariants as stops

-- nothing is wrong, or this is the first fault, or memory ran out before that is known
abbrev pub Finds : {A : Type 0} → Here → Result A Stop → Option FaultKind → Type 0
Finds here (Ok x) first = first ≡ None
Finds here (Err (stops.Fault fault)) first =
    option_map (fault_in here.process here.task.registers.began) first ≡ Some fault
Finds here (Err stops.Memory) first = ⊤

-- what a start tests while this join is open
abbrev pub later_tests : Contents → ℕ → Join → Found → ℕ → List (Bool × FaultKind)
later_tests m n join found workspace =
    if found.row == join.row
    then later_faults n (later_plan m join found.par) found workspace
    else no_row_faults join.rest workspace

-- a start of this branch
abbrev pub found_start : At → Found → ℕ → Local → World → Turn
found_start h found workspace l w = elim (opened_by w h.process) [
  | None ↦ first_start_turn h found workspace l w
  | Some join ↦ later_start_turn h join found workspace l w
]
