use Rattle.std.proofs.Common.{sym, ap, ◌∙◌}
use Rattle.scalar_ranges.specs.Narrowing.{as_holds}
use Rattle.scalar_ranges.proofs.Comparisons.{is_opposite}
use Rattle.scalar_ranges.proofs.narrowing.as_holds.Goals as goal

pub returns-else-holds : goal.returns-else-holds
returns-else-holds c =
    is_opposite c.args.comparison c.negated.result c.negated.ensures
    ∙ ap (λ t. as_holds t c.args.comparison) (sym c.if-holds.false)
