use Rattle.share_laws.proofs.BranchLent.{branches_are_lent}
use Rattle.share_laws.proofs.laws.branches_are_lent.Goals as goal

pub returns : goal.returns
returns c = branches_are_lent
