use Rattle.certified_programs.proofs.Items as proof
use Rattle.certified_programs.proofs.laws.main_is_settled.Goals as goal

pub returns : goal.returns
returns c = proof.main_is_settled
