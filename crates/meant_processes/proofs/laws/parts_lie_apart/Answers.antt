use Rattle.meant_processes.proofs.LyingInPrograms as proof
use Rattle.meant_processes.proofs.laws.parts_lie_apart.Goals as goal

pub returns : goal.returns
returns c = proof.parts_lie_apart
