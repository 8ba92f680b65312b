use Rattle.valid_code.proofs.ValidPrograms as proof
use Rattle.valid_code.proofs.laws.programs_are_valid.Goals as goal

pub returns-clause-pieces : goal.returns-clause-pieces
returns-clause-pieces c = proof.programs_are_valid

pub returns-clause-modules : goal.returns-clause-modules
returns-clause-modules c = proof.sequential_modules_are_valid
