use Rattle.share_laws.proofs.BranchApart.{branches_are_apart}
use Rattle.share_laws.proofs.laws.branches_are_apart.Goals as goal

pub returns : goal.returns
returns c = branches_are_apart
