use Rattle.machine_state.proofs.WaitingOnce.{nobody_waits_twice, no_two_wait_together}
use Rattle.machine_state.proofs.laws.nobody_waits_twice.Goals as goal

pub returns-clause-places : goal.returns-clause-places
returns-clause-places c = nobody_waits_twice

pub returns-clause-alone : goal.returns-clause-alone
returns-clause-alone c = no_two_wait_together
