-- Where a run of an accepted module begins.
use Rattle.std.proofs.Common.{ℕ, ◌+◌, ◌*◌, pos, refl, ap}
use Rattle.module_format.specs.Stack.{of_empty}
use Rattle.machine_state.specs.Memory.{data_start}
use Rattle.plain_machine.specs.Plain.{defined}
use Rattle.agreement.specs.Loading.{loaded_bytes, loaded_machine}
use Rattle.accepted_runs.proofs.Happening.{at_first}
use Rattle.placed_code.specs.Closing.{LaidCodeIsOfItsModule, RunsBegin}

-- both have the same address and the same bytes
pub laid_code_is_of_its_module : LaidCodeIsOfItsModule
laid_code_is_of_its_module ps labels links bytes says depth = refl

-- the loaded machine agrees with the loaded world
pub runs_begin : RunsBegin
runs_begin m inputs labels footing l keeps well base links = record {
  machine = loaded_machine m;
  on = at_first m keeps well;
  running = refl;
  here = ap (λ (b : ℕ). record {
    state = record {
      registers = record { workspace = data_start + 4 * b; at = 0; stack = of_empty (pos 0) };
      memory = defined (loaded_bytes m);
    };
    operand = pos 0;
  }) base;
  ready = refl;
  outputs = refl;
  inputs = refl;
  unfinished = refl;
  links = links;
}
