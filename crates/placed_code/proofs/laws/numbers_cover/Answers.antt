use Rattle.placed_code.proofs.NumbersCover as proof
use Rattle.placed_code.proofs.laws.numbers_cover.Goals as goal

pub returns : goal.returns
returns c = proof.numbers_cover
