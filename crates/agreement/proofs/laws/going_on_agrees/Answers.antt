use Rattle.agreement.proofs.GoingOn as proof
use Rattle.agreement.proofs.laws.going_on_agrees.Goals as goal

pub returns-clause-registers : goal.returns-clause-registers
returns-clause-registers c = proof.going_on_agrees

pub returns-clause-prefixes : goal.returns-clause-prefixes
returns-clause-prefixes c = proof.prefixes_agree

pub returns-clause-instructions : goal.returns-clause-instructions
returns-clause-instructions c = proof.instructions_agree
