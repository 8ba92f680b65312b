use Rattle.valid_code.proofs.ValidDrafts as proof
use Rattle.valid_code.proofs.laws.drafts_are_valid.Goals as goal

pub returns-clause-pieces : goal.returns-clause-pieces
returns-clause-pieces c = proof.drafts_are_valid

pub returns-clause-programs : goal.returns-clause-programs
returns-clause-programs c = proof.sequential_drafts_are_valid
