use Rattle.share_laws.proofs.GivenOnce.{shares_are_left}
use Rattle.share_laws.proofs.laws.shares_are_left.Goals as goal

pub returns : goal.returns
returns c = shares_are_left
