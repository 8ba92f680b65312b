use Rattle.share_laws.proofs.EndsOutside.{ends_lie_outside}
use Rattle.share_laws.proofs.laws.ends_lie_outside.Goals as goal

pub returns : goal.returns
returns c = ends_lie_outside
