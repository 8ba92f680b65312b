use Rattle.agreement.proofs.Acknowledging.{acknowledged_go_on}
use Rattle.agreement.proofs.laws.acknowledged_processes_go_on.Goals as goal

pub returns : goal.returns
returns c = acknowledged_go_on
