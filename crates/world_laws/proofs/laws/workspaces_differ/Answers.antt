use Rattle.world_laws.proofs.ParkedLaws.{workspaces_differ}
use Rattle.world_laws.proofs.laws.workspaces_differ.Goals as goal

pub returns : goal.returns
returns c = workspaces_differ
