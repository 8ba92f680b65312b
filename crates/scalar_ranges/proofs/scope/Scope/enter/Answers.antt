use Rattle.std.proofs.Common.{refl}
use Rattle.scalar_ranges.specs.Scopes.{entries_of, blocks_of}
use Rattle.scalar_ranges.specs.Naming.{names_from}
use Rattle.scalar_ranges.proofs.Nesting.{fit_entered}
use Rattle.scalar_ranges.proofs.Fitting.{fit_of, fit_at, in_both}
use Rattle.scalar_ranges.proofs.scope.Scope.enter.Goals as goal

pub invariant_of-self : goal.invariant_of-self
invariant_of-self c =
    let old = c.args.self.now in
    let fit = in_both c.begin.result c.begin.ensures.ok c.begin.ensures.err
    (λ is. fit_at is refl
    (fit_entered c.args.ended (names_from old.names.rows.items) (entries_of old) (blocks_of old) (fit_of old)))
    (λ is. fit_at is refl (fit_of old)) in
    record { named = fit.named; nested = fit.nested }

pub returns-clause-ok : goal.returns-clause-ok
returns-clause-ok c = c.begin.ensures.ok
