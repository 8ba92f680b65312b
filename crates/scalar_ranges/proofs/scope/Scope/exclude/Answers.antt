use Rattle.std.proofs.Common.{◌≡◌, FitsSigned, rules, refl, sym, ◌∙◌}
use Rattle.std.specs.Int.{w32}
use Rattle.std.proofs.lemmas.Int.{to_z-of_z}
use Rattle.occam_parser.specs.Views.{expression_of}
use Rattle.scalar_ranges.specs.Narrowing.{left_of, with_range}
use Rattle.scalar_ranges.specs.Moves.{exclude}
use Rattle.scalar_ranges.specs.Changes.{changed_start}
use Rattle.scalar_ranges.specs.Scopes.{entries_of, blocks_of}
use Rattle.scalar_ranges.specs.Naming.{names_from}
use Rattle.scalar_ranges.specs.Tests.{tested_of}
use Rattle.scalar_ranges.specs.LeftViews.{known_now}
use Rattle.scalar_ranges.proofs.Nesting.{fit_excluded}
use Rattle.scalar_ranges.proofs.Fitting.{fit_of, fit_at, excluded_known}
use Rattle.scalar_ranges.proofs.scope.Scope.exclude.Goals as goal
use Rattle.scalar_ranges.proofs.scope.Scope.exclude.Goals.{After-put_start}

known : (c : After-put_start) → known_now c.put_start.new.self
    ≡ exclude (expression_of c.args.condition.now) (known_now c.args.self.now.known)
known c =
    let old = known_now c.args.self.now.known in
    let test = c.in-Some.test in
    let n = c.in-Some-find.number in
    let fits : FitsSigned w32 test.constant = search rules in
    excluded_known old (known_now c.put_start.new.self) (expression_of c.args.condition.now) n (tested_of test)
    (sym c.in-Some.ensures) (sym c.in-Some-find.ensures.number)
    (c.put_start.ensures ∙ (λ i. record {
      entries = old.entries;
      blocks = changed_start (with_range (left_of (c.as_holds-comparison.ensures i)
          (to_z-of_z w32 test.constant fits i))) n old.blocks;
    }))

pub invariant_of-self : goal.invariant_of-self
invariant_of-self c =
    let old = c.args.self.now in
    let fit = fit_at (known c) refl (fit_excluded (expression_of c.args.condition.now)
    (names_from old.names.rows.items) (entries_of old) (blocks_of old) (fit_of old)) in
    record { named = fit.named; nested = fit.nested }

pub returns-in-Some-find : goal.returns-in-Some-find
returns-in-Some-find c = known (goal.at.returns-in-Some-find c).After-put_start
