use Rattle.certified_processes.proofs.Processes as proof
use Rattle.certified_processes.proofs.laws.processes_pass.Goals as goal

pub returns : goal.returns
returns c = proof.processes_pass
