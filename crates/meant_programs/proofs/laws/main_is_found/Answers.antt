use Rattle.meant_programs.proofs.Items as proof
use Rattle.meant_programs.proofs.laws.main_is_found.Goals as goal

pub returns : goal.returns
returns c = proof.main_is_found
