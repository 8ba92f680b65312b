use Rattle.meant_programs.proofs.Programs as proof
use Rattle.meant_programs.proofs.laws.programs_run_as_meant.Goals as goal

pub returns : goal.returns
returns c = proof.programs_run_as_meant
