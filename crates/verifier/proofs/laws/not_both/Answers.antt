use Rattle.verifier.proofs.Judging.{not_both as law}
use Rattle.verifier.proofs.laws.not_both.Goals as goal

pub returns : goal.returns
returns c = law
