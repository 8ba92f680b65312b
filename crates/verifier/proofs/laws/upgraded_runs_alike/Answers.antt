use Rattle.verifier.proofs.UpgradedModules.{upgraded_run}
use Rattle.verifier.proofs.laws.upgraded_runs_alike.Goals as goal

pub returns : goal.returns
returns c = upgraded_run
