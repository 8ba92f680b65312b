use Rattle.agreement.proofs.TurnsAgree as proof
use Rattle.agreement.proofs.laws.turns_agree.Goals as goal

pub returns : goal.returns
returns c = proof.turns_agree
