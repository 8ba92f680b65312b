use Rattle.occam_parser.specs.Views.{expression_of}
use Rattle.scalar_ranges.specs.Scopes.{entries_of}
use Rattle.program_uses.proofs.LowestOfBoth.{lowest_of, lowest_at, lowest_at2}
use Rattle.usage_checks.specs.InstanceRules.{BreaksActual, BreaksPassing}
use Rattle.usage_checks.proofs.instance_rules.fault_of_one.Goals as goal

pub returns : goal.returns
returns c =
    let es = entries_of c.args.scope.now in
    lowest_of c.lower.ensures
    (lowest_at2 (λ m. BreaksActual es m (expression_of c.args.actual.now)) c.formal_of.ensures c.place_in-place.ensures
    c.fault_of_actual.ensures)
    (lowest_at (BreaksPassing c.args.position es _) c.place_in-place.ensures c.fault_of_passing.ensures)
