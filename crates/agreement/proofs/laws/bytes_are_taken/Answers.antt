use Rattle.agreement.proofs.Taking as proof
use Rattle.agreement.proofs.laws.bytes_are_taken.Goals as goal

pub returns : goal.returns
returns c = proof.bytes_are_taken
