use Rattle.certified_actions.proofs.Declaring as proof
use Rattle.certified_actions.proofs.laws.declarations_are_told.Goals as goal

pub returns : goal.returns
returns c = proof.declarations_fall
