use Rattle.std.proofs.Common.{option_map, ap, sym, ◌∙◌}
use Rattle.scalar_ranges.specs.declared.scope.Declared.{Declared}
use Rattle.scalar_ranges.specs.Scopes.{entries_of, meaning_of}
use Rattle.scalar_ranges.proofs.Named.{means_nothing, number_found, meaning_found}
use Rattle.scalar_ranges.proofs.scope.Scope.lookup.Goals as goal

pub returns-in_err-number-clause-meaning : goal.returns-in_err-number-clause-meaning
returns-in_err-number-clause-meaning c =
    ap (option_map (λ (found : Declared). meaning_of found.meaning)) c.from_residual.ensures
    ∙ sym (means_nothing c.args.name.now (entries_of c.args.self.now) (sym c.in_err-number.ensures.number))

pub returns-in_err-meaning-clause-number : goal.returns-in_err-meaning-clause-number
returns-in_err-meaning-clause-number c =
    absurd (number_found c.args.name.now c.in_ok-number.number (entries_of c.args.self.now)
    (sym c.in_ok-number.ensures.number) c.in_err-meaning.ensures)

pub returns-in_err-meaning-clause-meaning : goal.returns-in_err-meaning-clause-meaning
returns-in_err-meaning-clause-meaning c =
    absurd (number_found c.args.name.now c.in_ok-number.number (entries_of c.args.self.now)
    (sym c.in_ok-number.ensures.number) c.in_err-meaning.ensures)

pub returns-clause-meaning : goal.returns-clause-meaning
returns-clause-meaning c =
    let n = c.in_ok-number.number in
    c.in_ok-meaning.ensures
    ∙ sym (meaning_found c.args.name.now n (entries_of c.args.self.now) (sym c.in_ok-number.ensures.number))
