use Rattle.placed_code.proofs.PiecesLie as proof
use Rattle.placed_code.proofs.laws.pieces_lie.Goals as goal

pub returns : goal.returns
returns c = proof.pieces_lie
