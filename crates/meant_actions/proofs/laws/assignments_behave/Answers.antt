use Rattle.meant_actions.proofs.Assigning as proof
use Rattle.meant_actions.proofs.laws.assignments_behave.Goals as goal

pub returns : goal.returns
returns c = proof.assignments_behave
