use Rattle.share_laws.proofs.BranchHolds.{branches_hold_their_shares}
use Rattle.share_laws.proofs.laws.branches_hold_their_shares.Goals as goal

pub returns : goal.returns
returns c = branches_hold_their_shares
