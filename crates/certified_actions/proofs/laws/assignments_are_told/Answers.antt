use Rattle.certified_actions.proofs.Assigning as proof
use Rattle.certified_actions.proofs.laws.assignments_are_told.Goals as goal

pub returns : goal.returns
returns c = proof.assignments_fall
