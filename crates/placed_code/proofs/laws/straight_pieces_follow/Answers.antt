use Rattle.placed_code.proofs.StraightPieces as proof
use Rattle.placed_code.proofs.laws.straight_pieces_follow.Goals as goal

pub returns : goal.returns
returns c = proof.straight_pieces_follow
