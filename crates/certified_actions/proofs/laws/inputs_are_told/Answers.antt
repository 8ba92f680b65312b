use Rattle.certified_actions.proofs.Receiving as proof
use Rattle.certified_actions.proofs.laws.inputs_are_told.Goals as goal

pub returns : goal.returns
returns c = proof.inputs_fall
