use Rattle.std.proofs.Common.{ap, sym, ◌∙◌}
use Rattle.scalar_ranges.specs.Lefts.{known_left}
use Rattle.scalar_ranges.specs.LeftViews.{left_by}
use Rattle.scalar_ranges.specs.TrackedViews.{known_by}
use Rattle.scalar_ranges.specs.Changes.{begin_with}
use Rattle.scalar_ranges.proofs.Fitting.{begun_known, if_ok}
use Rattle.scalar_ranges.proofs.deferred.Deferred.begin.Goals as goal

pub returns-in_default-clause-ok : goal.returns-in_default-clause-ok
returns-in_default-clause-ok c =
    let now = c.settle.new.self in
    let still = c.settle.ensures.stage in
    if_ok c.begin.result c.begin.ensures.ok (λ is.
    let known = begun_known now.tracked c.begin.new.self c.args.ended is in
    (λ i. known_left (still i) (left_by now) (known i))
    ∙ ap (begin_with c.args.ended) ((λ i. known_left (sym still i) (left_by now) (known_by now.tracked))
    ∙ c.settle.ensures.known))
