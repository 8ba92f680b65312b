use Rattle.scalar_ranges.specs.Moves.{next_from}
use Rattle.scalar_ranges.proofs.Nesting.{fit_next}
use Rattle.scalar_ranges.proofs.Fitting.{fit_cut}
use Rattle.scalar_ranges.proofs.scope.Scope.next.Goals as goal

pub invariant_of-self : goal.invariant_of-self
invariant_of-self c =
    let fit = fit_cut c.args.self.now next_from fit_next c.len.result c.next.ensures c.truncate.ensures c.len.ensures in
    record { named = fit.named; nested = fit.nested }
