use Rattle.placed_code.proofs.Stopping as proof
use Rattle.placed_code.proofs.laws.stops_come_to_be.Goals as goal

pub returns : goal.returns
returns c = proof.stops_come_to_be
