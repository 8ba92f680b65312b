use Rattle.certified_processes.proofs.Rows as proof
use Rattle.certified_processes.proofs.laws.rows_are_of_scopes.Goals as goal

pub returns-clause-implied : goal.returns-clause-implied
returns-clause-implied c = proof.scopes_imply_rows

pub returns-clause-entered : goal.returns-clause-entered
returns-clause-entered c = proof.scopes_enter_loops

pub returns-clause-told : goal.returns-clause-told
returns-clause-told c = proof.rows_tell_scopes
