use Rattle.verifier.proofs.UpgradedModules.{upgraded_judged}
use Rattle.verifier.proofs.laws.upgraded_is_certified.Goals as goal

pub returns : goal.returns
returns c = upgraded_judged
