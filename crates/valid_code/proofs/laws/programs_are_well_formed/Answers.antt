use Rattle.valid_code.proofs.WellFormed as proof
use Rattle.valid_code.proofs.laws.programs_are_well_formed.Goals as goal

pub returns-clause-whole : goal.returns-clause-whole
returns-clause-whole c = proof.programs_are_well_formed

pub returns-clause-operands : goal.returns-clause-operands
returns-clause-operands c = proof.operands_are_words
