use Rattle.std.proofs.Common.{ap, ◌∙◌}
use Rattle.scalar_ranges.specs.Scopes.{entries_of}
use Rattle.program_uses.specs.PlaceViews.{place_at}
use Rattle.program_uses.proofs.LowestOfBoth.{lowest_of, lowest_at}
use Rattle.usage_checks.specs.PlaceRules.{elements_in, BreaksSubscript}
use Rattle.usage_checks.proofs.place_rules.fault_of_place.Goals as goal

pub returns : goal.returns
returns c =
    let es = entries_of c.args.scope.now in
    let size = c.elements_in-size.ensures ∙ ap elements_in c.meaning.ensures in
    lowest_of c.lower.ensures c.untyped.ensures
    (lowest_at (λ s. BreaksSubscript c.args.wanted es s (place_at c.args.place).subscript) size
    c.fault_of_subscript.ensures)
