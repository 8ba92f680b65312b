use Rattle.placed_code.proofs.Sending as proof
use Rattle.placed_code.proofs.laws.sends_come_to_be.Goals as goal

pub returns : goal.returns
returns c = proof.sends_come_to_be
