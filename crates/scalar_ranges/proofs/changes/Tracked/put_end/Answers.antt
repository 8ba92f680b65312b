use Rattle.scalar_ranges.specs.ChangeViews.{meaning_of}
use Rattle.scalar_ranges.specs.Deferring.{of_form}
use Rattle.scalar_ranges.proofs.Components.{ends_within}
use Rattle.scalar_ranges.proofs.changes.Tracked.put_end.Goals as goal

pub update-requires : goal.update-requires
update-requires c = ends_within (λ m. of_form c.args.form m (meaning_of c.args.left))
