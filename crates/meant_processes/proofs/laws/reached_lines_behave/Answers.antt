use Rattle.meant_processes.proofs.Lines as proof
use Rattle.meant_processes.proofs.laws.reached_lines_behave.Goals as goal

pub returns : goal.returns
returns c = proof.reached_lines_behave
