use Rattle.placed_code.proofs.SaidWords as proof
use Rattle.placed_code.proofs.laws.words_are_said.Goals as goal

pub returns : goal.returns
returns c = proof.words_are_said
