-- A branch that was found, as the definitions have it, and the plan of a start of it.
use Rattle.module_format.specs.Contents.{branch_of, par_of}
use Rattle.machine_state.specs.JoinLookups.{Found}
use Rattle.machine_state.specs.StartPlans.{Plan, first_plan}
use Rattle.machine_state.specs.World.{World, holding_at}
use Rattle.joins.specs.declared.found.Found as kept
use Rattle.joins.specs.declared.found.Start.{Start}

abbrev pub found_view : kept.Found → Found
found_view f = record { row = f.row; par = par_of f.par.now; number = f.number; branch = branch_of f.branch.now }

-- the plan of a start that is the first of its PAR
abbrev pub first_plan_of : Start → World → Plan
first_plan_of start w =
    let here = start.here.now in
    first_plan start.module.now here.process here.task.registers.workspace (holding_at w.roles here.process) w.memory
    (found_view start.found)
