use Rattle.placed_code.proofs.PiecesGo as proof
use Rattle.placed_code.proofs.laws.pieces_go.Goals as goal

pub returns : goal.returns
returns c = proof.pieces_go
