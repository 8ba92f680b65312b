use Rattle.share_laws.proofs.BranchBegins.{branches_begin}
use Rattle.share_laws.proofs.laws.branches_begin.Goals as goal

pub returns : goal.returns
returns c = branches_begin
