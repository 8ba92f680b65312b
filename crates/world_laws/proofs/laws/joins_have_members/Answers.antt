use Rattle.world_laws.proofs.JoinMembers.{joins_have_members}
use Rattle.world_laws.proofs.laws.joins_have_members.Goals as goal

pub returns : goal.returns
returns c = joins_have_members
