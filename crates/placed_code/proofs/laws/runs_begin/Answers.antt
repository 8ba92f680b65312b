use Rattle.placed_code.proofs.RunsBegin as proof
use Rattle.placed_code.proofs.laws.runs_begin.Goals as goal

pub returns-clause-code : goal.returns-clause-code
returns-clause-code c = proof.laid_code_is_of_its_module

pub returns-clause-begins : goal.returns-clause-begins
returns-clause-begins c = proof.runs_begin
