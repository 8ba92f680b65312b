use Rattle.std.proofs.Common.{sym, ◌∙◌}
use Rattle.scalar_ranges.specs.LeftViews.{left_by}
use Rattle.scalar_ranges.specs.TrackedViews.{known_by}
use Rattle.scalar_ranges.proofs.Postponing.{now_long}
use Rattle.scalar_ranges.proofs.deferred.Deferred.len.Goals as goal

pub returns : goal.returns
returns c =
    let now = c.args.self.now in c.len.ensures ∙ sym (now_long now.stage (left_by now) (known_by now.tracked))
