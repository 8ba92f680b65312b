use Rattle.meant_code.proofs.AmongOthers as proof
use Rattle.meant_code.proofs.laws.pieces_lead.Goals as goal

pub returns : goal.returns
returns c = proof.pieces_lead
