use Rattle.meant_actions.proofs.Acting as proof
use Rattle.meant_actions.proofs.laws.nothing_is_done.Goals as goal

pub returns-clause-skips : goal.returns-clause-skips
returns-clause-skips c = proof.skips_behave

pub returns-clause-stops : goal.returns-clause-stops
returns-clause-stops c = proof.stops_behave
