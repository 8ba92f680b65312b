use Rattle.std.proofs.Common.{◌≡◌, map, take}
use Rattle.occam_parser.specs.LineViews.{formal_of}
use Rattle.scalar_ranges.specs.Scopes.{entries_of}
use Rattle.program_uses.specs.Signatures.{parameter_of}
use Rattle.usage_checks.specs.FormalRules.{parameter_for}
use Rattle.usage_checks.proofs.formal_rules.parameters_for.Given as goal

abbrev pub invariant-loop-formal : goal.invariant-loop-formal
invariant-loop-formal l =
    map parameter_of l.parameters.items
    ≡ map (parameter_for (entries_of l.scope)) (map formal_of (take l.formal-index l.formals))
