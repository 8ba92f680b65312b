use Rattle.verifier.proofs.CertifiedRuns.{certified_run_holds}
use Rattle.verifier.proofs.laws.certified_runs_hold_the_invariant.Goals as goal

pub returns : goal.returns
returns c = certified_run_holds
