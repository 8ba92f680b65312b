use Rattle.std.proofs.Common.{FitsSigned, rules, sym, ap, ◌∙◌}
use Rattle.std.specs.Int.{w32}
use Rattle.std.proofs.lemmas.Int.{to_z-of_z}
use Rattle.occam_parser.specs.Views.{expression_of}
use Rattle.scalar_ranges.specs.Narrowing.{with_range, left_of}
use Rattle.scalar_ranges.specs.Moves.{with_meaning}
use Rattle.scalar_ranges.specs.Scopes.{meaning_of, entries_of}
use Rattle.scalar_ranges.specs.Tests.{tested_of, changed_by}
use Rattle.scalar_ranges.proofs.Named.{left_by, narrows_none, narrows, changed_by_meaning, none_changed}
use Rattle.scalar_ranges.proofs.narrowing.narrowed_by.Goals as goal

pub returns-in_err-number : goal.returns-in_err-number
returns-in_err-number c =
    let es = entries_of c.args.scope.now in
    narrows_none es (expression_of c.args.condition.now) c.args.holds (tested_of c.in_ok-test.test)
    (sym c.in_ok-test.ensures) (sym c.in_err-number.ensures.number)
    ∙ ap (λ o. changed_by o es) (sym c.from_residual-in_err-number.ensures)

pub returns-in_err-meaning : goal.returns-in_err-meaning
returns-in_err-meaning c =
    let es = entries_of c.args.scope.now in
    let t = tested_of c.in_ok-test.test in
    narrows es (expression_of c.args.condition.now) c.args.holds t c.in_ok-number.number (sym c.in_ok-test.ensures)
    (sym c.in_ok-number.ensures.number)
    ∙ none_changed (with_meaning (with_range (left_by t c.args.holds))) c.in_ok-number.number es
    (sym c.in_err-meaning.ensures)
    ∙ ap (λ o. changed_by o es) (sym c.from_residual-in_err-meaning.ensures)

pub returns : goal.returns
returns c =
    let es = entries_of c.args.scope.now in
    let test = c.in_ok-test.test in
    let t = tested_of test in
    let m = meaning_of c.in_ok-meaning.meaning in
    let fits : FitsSigned w32 test.constant = search rules in
    narrows es (expression_of c.args.condition.now) c.args.holds t c.in_ok-number.number (sym c.in_ok-test.ensures)
    (sym c.in_ok-number.ensures.number)
    ∙ sym (changed_by_meaning (with_range (left_by t c.args.holds)) c.in_ok-number.number
    (meaning_of c.narrowed.result) m es (sym c.in_ok-meaning.ensures) (c.narrowed.ensures
    ∙ (λ i. with_range (left_of (c.as_holds-comparison.ensures i) (to_z-of_z w32 test.constant fits i)) m)))
