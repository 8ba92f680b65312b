use Rattle.placed_code.proofs.RowsFound as proof
use Rattle.placed_code.proofs.laws.rows_are_found.Goals as goal

pub returns-clause-order : goal.returns-clause-order
returns-clause-order c = proof.rows_keep_their_order

pub returns-clause-found : goal.returns-clause-found
returns-clause-found c = proof.rows_are_found

pub returns-clause-elsewhere : goal.returns-clause-elsewhere
returns-clause-elsewhere c = proof.no_row_is_elsewhere

pub returns-clause-between : goal.returns-clause-between
returns-clause-between c = proof.no_row_is_before_others

pub returns-clause-inside : goal.returns-clause-inside
returns-clause-inside c = proof.no_row_is_inside
