use Rattle.scalar_ranges.specs.Moves.{component_from}
use Rattle.scalar_ranges.proofs.Nesting.{fit_component}
use Rattle.scalar_ranges.proofs.Fitting.{fit_cut}
use Rattle.scalar_ranges.proofs.scope.Scope.next_component.Goals as goal

pub invariant_of-self : goal.invariant_of-self
invariant_of-self c =
    let numbers = c.args.numbers.now in
    let fit = fit_cut c.args.self.now (component_from numbers) (fit_component numbers) c.len.result
    c.next_component.ensures c.truncate.ensures c.len.ensures in
    record { named = fit.named; nested = fit.nested }
