use Rattle.std.proofs.Common.{ap, ◌∙◌, option_map}
use Rattle.scalar_ranges.specs.Scopes.{entries_of, meaning_of}
use Rattle.program_uses.specs.PlaceViews.{place_at}
use Rattle.program_uses.proofs.LowestOfBoth.{lowest_of, lowest_at2}
use Rattle.usage_checks.specs.PlaceRules.{elements_in, BreaksSubscript}
use Rattle.usage_checks.specs.InstanceRules.{IsNotTaken}
use Rattle.usage_checks.proofs.instance_rules.fault_of_whole.Goals as goal

pub returns : goal.returns
returns c =
    let es = entries_of c.args.scope.now in
    let p = place_at c.args.place in
    let found = c.meaning-found.ensures in
    let size = c.elements_in-size.ensures ∙ ap elements_in found in
    lowest_of c.lower.ensures
    (lowest_at2 (IsNotTaken (option_map meaning_of c.args.formal)) found c.is_subscripted.ensures c.not_taken.ensures)
    (lowest_at2 (λ w s. BreaksSubscript w es s p.subscript) c.subscript_for.ensures size c.fault_of_subscript.ensures)
