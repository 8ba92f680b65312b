use Rattle.verifier.proofs.CertifiedRuns.{runs_well}
use Rattle.verifier.proofs.laws.certified_modules_run_well.Goals as goal

pub returns : goal.returns
returns c = runs_well
