use Rattle.machine.proofs.Performing.{without_memory}
use Rattle.machine.proofs.checked.machine.Machine.run_byte.Goals as goal

pub returns-in-None-clause-memory : goal.returns-in-None-clause-memory
returns-in-None-clause-memory c = without_memory c.prefix.result _ c.prefix.ensures.memory
