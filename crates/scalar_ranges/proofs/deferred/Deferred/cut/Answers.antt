use Rattle.std.proofs.Common.{◌≤◌, ap, subst, ◌∙◌}
use Rattle.scalar_ranges.specs.Lefts.{known_left}
use Rattle.scalar_ranges.specs.LeftViews.{left_by}
use Rattle.scalar_ranges.specs.TrackedViews.{known_by}
use Rattle.scalar_ranges.specs.Moves.{begun_with}
use Rattle.scalar_ranges.proofs.Fitting.{cut_known}
use Rattle.scalar_ranges.proofs.Postponing.{cut_now, begun_now}
use Rattle.scalar_ranges.proofs.deferred.Deferred.cut.Goals as goal

pub cut-requires : goal.cut-requires
cut-requires c =
    let old = c.args.self.now in
    subst (λ n. n ≤ c.args.count) (begun_now old.stage (left_by old) (known_by old.tracked)) c.requires

pub returns : goal.returns
returns c =
    let old = c.args.self.now in
    let k = known_by old.tracked in
    let least : begun_with k.blocks ≤ c.args.count =
    subst (λ n. n ≤ c.args.count) (begun_now old.stage (left_by old) k) c.requires in
    ap (known_left old.stage (left_by old)) (cut_known old.tracked c.cut.new.self c.args.count least c.cut.ensures)
    ∙ cut_now old.stage (left_by old) c.args.count k
