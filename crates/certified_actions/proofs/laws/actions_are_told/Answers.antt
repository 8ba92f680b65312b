use Rattle.certified_actions.proofs.Actions as proof
use Rattle.certified_actions.proofs.laws.actions_are_told.Goals as goal

pub returns : goal.returns
returns c = proof.actions_fall
