use Rattle.std.proofs.Common.{rules}
use Rattle.machine.proofs.Performing.{asks_rightly}
use Rattle.machine.proofs.checked.machine.Machine.perform.Goals as goal

pub returns-clause-asks : goal.returns-clause-asks
returns-clause-asks c =
    asks_rightly _ _ _ c.in_ok-flow.flow _ _ _ _ c.in_ok-flow.ensures (search rules) (search rules) (search rules)
