use Rattle.placed_code.proofs.TablesInMemory as proof
use Rattle.placed_code.proofs.laws.tables_are_loaded.Goals as goal

pub returns-clause-loaded : goal.returns-clause-loaded
returns-clause-loaded c = proof.tables_are_loaded

pub returns-clause-stay : goal.returns-clause-stay
returns-clause-stay c = proof.tables_stay
