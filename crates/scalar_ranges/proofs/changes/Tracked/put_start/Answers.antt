use Rattle.scalar_ranges.proofs.Components.{start_within}
use Rattle.scalar_ranges.proofs.changes.Tracked.put_start.Goals as goal

pub update-requires : goal.update-requires
update-requires c = start_within _
