use Rattle.placed_code.proofs.Receiving as proof
use Rattle.placed_code.proofs.laws.receives_come_to_be.Goals as goal

pub returns : goal.returns
returns c = proof.receives_come_to_be
