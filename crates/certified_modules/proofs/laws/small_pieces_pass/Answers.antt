use Rattle.certified_modules.proofs.SmallPieces as proof
use Rattle.certified_modules.proofs.laws.small_pieces_pass.Goals as goal

pub returns : goal.returns
returns c = proof.small_pieces_pass
