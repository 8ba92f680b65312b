use Rattle.agreement.proofs.StepsAgree as proof
use Rattle.agreement.proofs.laws.steps_agree.Goals as goal

pub returns : goal.returns
returns c = proof.steps_agree
