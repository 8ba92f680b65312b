use Rattle.certified_programs.proofs.FullPrograms as proof
use Rattle.certified_programs.proofs.laws.tables_have_values.Goals as goal

pub returns : goal.returns
returns c = proof.no_table_is_empty
