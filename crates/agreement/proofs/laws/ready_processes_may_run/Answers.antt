use Rattle.agreement.proofs.GivingWay.{who_is_ready_may_run}
use Rattle.agreement.proofs.laws.ready_processes_may_run.Goals as goal

pub returns : goal.returns
returns c = who_is_ready_may_run
