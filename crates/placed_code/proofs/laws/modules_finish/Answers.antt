use Rattle.placed_code.proofs.Finishing as proof
use Rattle.placed_code.proofs.laws.modules_finish.Goals as goal

pub returns : goal.returns
returns c = proof.laid_modules_finish
