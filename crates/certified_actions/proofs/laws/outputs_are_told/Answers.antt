use Rattle.certified_actions.proofs.Sending as proof
use Rattle.certified_actions.proofs.laws.outputs_are_told.Goals as goal

pub returns : goal.returns
returns c = proof.outputs_fall
