use Rattle.valid_code.proofs.ModulesValid as proof
use Rattle.valid_code.proofs.laws.modules_are_valid.Goals as goal

pub returns-clause-apart : goal.returns-clause-apart
returns-clause-apart c = proof.rows_are_apart

pub returns-clause-valid : goal.returns-clause-valid
returns-clause-valid c = proof.modules_are_valid

pub returns-clause-said : goal.returns-clause-said
returns-clause-said c = proof.pieces_are_said
