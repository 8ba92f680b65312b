use Rattle.std.proofs.Common.{sym, ◌∙◌}
use Rattle.scalar_ranges.specs.Scopes.{entries_of}
use Rattle.scalar_ranges.proofs.Named.{means_nothing, meaning_found}
use Rattle.scalar_ranges.proofs.scope.Scope.meaning.Goals as goal

pub returns-in-None : goal.returns-in-None
returns-in-None c =
    sym (means_nothing c.args.name.now (entries_of c.args.self.now) (sym c.in-None.ensures.number))

pub returns-in-Some : goal.returns-in-Some
returns-in-Some c =
    c.meaning.ensures
    ∙ sym (meaning_found c.args.name.now c.in-Some.number (entries_of c.args.self.now) (sym c.in-Some.ensures.number))
