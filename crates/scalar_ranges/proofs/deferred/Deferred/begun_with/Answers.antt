use Rattle.std.proofs.Common.{sym, ◌∙◌}
use Rattle.scalar_ranges.specs.LeftViews.{left_by}
use Rattle.scalar_ranges.specs.TrackedViews.{known_by}
use Rattle.scalar_ranges.proofs.Postponing.{begun_now}
use Rattle.scalar_ranges.proofs.deferred.Deferred.begun_with.Goals as goal

pub returns : goal.returns
returns c =
    let now = c.args.self.now in c.begun_with.ensures ∙ sym (begun_now now.stage (left_by now) (known_by now.tracked))
