use Rattle.agreement.proofs.Loading as proof
use Rattle.agreement.proofs.laws.loaded_agrees.Goals as goal

pub returns : goal.returns
returns c = proof.loaded_agrees
