use Rattle.scalar_ranges.specs.ChangeViews.{meaning_of}
use Rattle.scalar_ranges.proofs.Tracking.{new_within}
use Rattle.scalar_ranges.proofs.changes.Tracked.put.Goals as goal

pub update-requires : goal.update-requires
update-requires c = new_within (meaning_of c.args.meaning)
