use Rattle.scalar_ranges.specs.Moves.{after_block}
use Rattle.scalar_ranges.proofs.Nesting.{fit_ended}
use Rattle.scalar_ranges.proofs.Fitting.{fit_cut}
use Rattle.scalar_ranges.proofs.scope.Scope.end.Goals as goal

pub invariant_of-self : goal.invariant_of-self
invariant_of-self c =
    let fit = fit_cut c.args.self.now after_block fit_ended c.len.result c.end.ensures c.truncate.ensures
    c.len.ensures in
    record { named = fit.named; nested = fit.nested }
