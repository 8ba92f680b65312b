use Rattle.std.proofs.Common.{refl, ap}
use Rattle.scalar_ranges.specs.Moves.{Known}
use Rattle.scalar_ranges.specs.Scopes.{meaning_of, entries_of, blocks_of}
use Rattle.scalar_ranges.specs.Changes.{changed_to}
use Rattle.scalar_ranges.specs.Naming.{names_from}
use Rattle.scalar_ranges.proofs.Nesting.{fit_alike}
use Rattle.scalar_ranges.proofs.Fitting.{fit_of, fit_at}
use Rattle.scalar_ranges.proofs.scope.Scope.put.Goals as goal

pub invariant_of-self : goal.invariant_of-self
invariant_of-self c =
    let old = c.args.self.now in
    let m = meaning_of c.args.meaning in
    let fit = fit_at c.put.ensures refl
    (fit_alike (names_from old.names.rows.items) (changed_to m c.args.number (entries_of old)) (entries_of old)
    (blocks_of old) c.requires (fit_of old)) in
    record { named = fit.named; nested = fit.nested }

pub returns : goal.returns
returns c =
    let old = c.args.self.now in
    let known = c.put.ensures in
    record { entries = ap (λ (k : Known). k.entries) known; blocks = ap (λ (k : Known). k.blocks) known }
