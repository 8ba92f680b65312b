use Rattle.meant_actions.proofs.Actions as proof
use Rattle.meant_actions.proofs.laws.actions_behave.Goals as goal

pub returns : goal.returns
returns c = proof.actions_behave
