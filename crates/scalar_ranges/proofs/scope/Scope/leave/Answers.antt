use Rattle.std.proofs.Common.{◌≤◌, max, ap, arith, ◌∙◌}
use Rattle.scalar_ranges.specs.Moves.{Known, outermost, begun_with}
use Rattle.scalar_ranges.specs.Scopes.{entries_of, blocks_of}
use Rattle.scalar_ranges.specs.Naming.{names_from}
use Rattle.scalar_ranges.proofs.Nesting.{fit_left}
use Rattle.scalar_ranges.proofs.Fitting.{fit_of, fit_at}
use Rattle.scalar_ranges.proofs.scope.Scope.leave.Goals as goal

pub invariant_of-self : goal.invariant_of-self
invariant_of-self c =
    let old = c.args.self.now in
    let count = c.max-count.result in
    let least : begun_with (blocks_of old) ≤ count = omega (arith, c.begun_with.ensures) in
    let fit = fit_at c.cut.ensures c.truncate.ensures
    (fit_left (names_from old.names.rows.items) count (entries_of old) (blocks_of old) least (fit_of old)) in
    record { named = fit.named; nested = fit.nested }

pub returns : goal.returns
returns c =
    let old = c.args.self.now in
    let count = c.max-count.result in
    let least : begun_with (blocks_of old) ≤ count = omega (arith, c.begun_with.ensures) in
    let known = c.cut.ensures in
    record {
      entries = ap (λ (k : Known). k.entries) known ∙ ap (λ n. outermost n (entries_of old))
          (c.max-count.ensures ∙ ap (max c.args.count) c.begun_with.ensures);
      blocks = ap (λ (k : Known). k.blocks) known;
    }
