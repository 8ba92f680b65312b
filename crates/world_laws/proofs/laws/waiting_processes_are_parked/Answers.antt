use Rattle.world_laws.proofs.ParkedLaws.{who_is_ready_is_parked, who_waits_is_parked}
use Rattle.world_laws.proofs.laws.waiting_processes_are_parked.Goals as goal

pub returns-clause-ready : goal.returns-clause-ready
returns-clause-ready c = who_is_ready_is_parked

pub returns-clause-others : goal.returns-clause-others
returns-clause-others c = who_waits_is_parked
