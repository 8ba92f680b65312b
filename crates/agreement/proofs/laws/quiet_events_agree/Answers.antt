use Rattle.agreement.proofs.Arriving as proof
use Rattle.agreement.proofs.KeepingBytes.{arrivals_agree}
use Rattle.agreement.proofs.laws.quiet_events_agree.Goals as goal

pub returns-clause-steps : goal.returns-clause-steps
returns-clause-steps c = proof.idle_steps_agree

pub returns-clause-arrivals : goal.returns-clause-arrivals
returns-clause-arrivals c = arrivals_agree

pub returns-clause-acknowledgements : goal.returns-clause-acknowledgements
returns-clause-acknowledgements c = proof.acknowledgements_agree
