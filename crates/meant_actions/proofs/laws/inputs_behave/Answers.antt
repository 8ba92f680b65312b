use Rattle.meant_actions.proofs.Receiving as proof
use Rattle.meant_actions.proofs.laws.inputs_behave.Goals as goal

pub returns : goal.returns
returns c = proof.inputs_behave
