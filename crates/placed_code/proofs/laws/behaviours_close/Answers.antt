use Rattle.placed_code.proofs.Closes as proof
use Rattle.placed_code.proofs.laws.behaviours_close.Goals as goal

pub returns : goal.returns
returns c = proof.behaviours_close
