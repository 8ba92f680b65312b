use Rattle.valid_code.proofs.WholeDrafts as proof
use Rattle.valid_code.proofs.laws.drafts_are_whole.Goals as goal

pub returns-clause-code : goal.returns-clause-code
returns-clause-code c = proof.code_is_complete

pub returns-clause-pieces : goal.returns-clause-pieces
returns-clause-pieces c = proof.drafts_are_whole

pub returns-clause-programs : goal.returns-clause-programs
returns-clause-programs c = proof.sequential_drafts_are_whole
