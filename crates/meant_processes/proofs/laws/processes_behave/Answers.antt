use Rattle.meant_processes.proofs.Processes as proof
use Rattle.meant_processes.proofs.laws.processes_behave.Goals as goal

pub returns : goal.returns
returns c = proof.processes_behave
