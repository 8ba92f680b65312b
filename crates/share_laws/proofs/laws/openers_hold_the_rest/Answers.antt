use Rattle.share_laws.proofs.OpenerHolds.{openers_hold_the_rest}
use Rattle.share_laws.proofs.laws.openers_hold_the_rest.Goals as goal

pub returns : goal.returns
returns c = openers_hold_the_rest
