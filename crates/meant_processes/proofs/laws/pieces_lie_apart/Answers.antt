use Rattle.meant_processes.proofs.Lying as proof
use Rattle.meant_processes.proofs.laws.pieces_lie_apart.Goals as goal

pub returns : goal.returns
returns c = proof.pieces_lie_apart
