use Rattle.std.proofs.Common.{sym, ap, ◌∙◌}
use Rattle.scalar_ranges.specs.Moves.{Known}
use Rattle.scalar_ranges.specs.Scopes.{entry_of, entries_of, blocks_of}
use Rattle.scalar_ranges.specs.Naming.{names_from}
use Rattle.scalar_ranges.proofs.Nesting.{fit_declared}
use Rattle.scalar_ranges.proofs.Fitting.{fit_of, fit_at, on_ok}
use Rattle.scalar_ranges.proofs.scope.Scope.declare.Goals as goal

pub invariant_of-self-else-is_err-2 : goal.invariant_of-self-else-is_err-2
invariant_of-self-else-is_err-2 c =
    let old = c.args.self.now in
    let e = entry_of c.args.entry in
    let named = on_ok c.push.result (sym c.is_err.ensures.value ∙ c.if-is_err.false) c.push.ensures.ok in
    let known =
    on_ok c.declare.result (sym c.is_err-2.ensures.value ∙ c.if-is_err-2.false) c.declare.ensures.ok in
    let fit = fit_at known named
    (fit_declared (names_from old.names.rows.items) e (entries_of old) (blocks_of old) (fit_of old)) in
    record { named = fit.named; nested = fit.nested }

pub returns-clause-blocks : goal.returns-clause-blocks
returns-clause-blocks c =
    ap (λ (k : Known). k.blocks)
    (on_ok c.declare.result (sym c.is_err-2.ensures.value ∙ c.if-is_err-2.false) c.declare.ensures.ok)
