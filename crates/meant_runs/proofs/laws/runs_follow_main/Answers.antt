use Rattle.meant_runs.proofs.MainsRun as proof
use Rattle.meant_runs.proofs.laws.runs_follow_main.Goals as goal

pub returns : goal.returns
returns c = proof.runs_follow_main
