use Rattle.machine_state.proofs.Writing.{arrivals_write_one}
use Rattle.machine_state.proofs.laws.events_write_their_own.Goals as goal

pub returns-clause-arrivals : goal.returns-clause-arrivals
returns-clause-arrivals c = arrivals_write_one
