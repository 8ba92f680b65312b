use Rattle.compiled_runs.proofs.CompiledRuns as proof
use Rattle.compiled_runs.proofs.laws.compiled_programs_do_what_they_mean.Goals as goal

pub returns : goal.returns
returns c = proof.compiled_programs_do_what_they_mean
