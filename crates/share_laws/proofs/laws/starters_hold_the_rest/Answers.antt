use Rattle.share_laws.proofs.StarterHolds.{starters_hold_the_rest}
use Rattle.share_laws.proofs.laws.starters_hold_the_rest.Goals as goal

pub returns : goal.returns
returns c = starters_hold_the_rest
