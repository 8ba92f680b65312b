use Rattle.meant_actions.proofs.Sending as proof
use Rattle.meant_actions.proofs.laws.outputs_behave.Goals as goal

pub returns : goal.returns
returns c = proof.outputs_behave
