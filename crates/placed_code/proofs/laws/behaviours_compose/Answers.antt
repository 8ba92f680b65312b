use Rattle.placed_code.proofs.Behaves as proof
use Rattle.placed_code.proofs.laws.behaviours_compose.Goals as goal

pub returns : goal.returns
returns c = proof.behaviours_compose
