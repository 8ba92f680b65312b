use Rattle.std.proofs.Common.{sym, ap, option_map, ◌∙◌}
use Rattle.occam_parser.specs.Views.{expression_of}
use Rattle.scalar_ranges.specs.Bounds.{range_found}
use Rattle.scalar_ranges.specs.Scopes.{entries_of}
use Rattle.program_uses.proofs.LowestOfBoth.{lowest_of, lowest_at, lowest_at2}
use Rattle.usage_checks.specs.PlaceRules.{IsOutside, BreaksSubscript}
use Rattle.usage_checks.proofs.place_rules.fault_of_subscript.Goals as goal

pub returns-in-Some : goal.returns-in-Some
returns-in-Some c =
    lowest_at (λ s. BreaksSubscript c.args.wanted (entries_of c.args.scope.now) c.args.size
    (option_map (λ e. expression_of e.now) s)) (sym c.in-Some.is)
    (lowest_of c.lower.ensures c.fault_of.ensures
    (lowest_at2 (IsOutside c.args.size) c.read-reading.ensures.types
    (c.range.ensures ∙ ap range_found c.read-reading.ensures.bounds) c.outside.ensures))
