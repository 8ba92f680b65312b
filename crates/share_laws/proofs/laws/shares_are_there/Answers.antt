use Rattle.share_laws.proofs.ShareIsThere.{shares_are_there}
use Rattle.share_laws.proofs.laws.shares_are_there.Goals as goal

pub returns : goal.returns
returns c = shares_are_there
