use Rattle.std.proofs.Common.{map, take}
use Rattle.occam_parser.specs.LineViews.{formal_of}
use Rattle.scalar_ranges.specs.Scopes.{entries_of}
use Rattle.program_uses.specs.Lowest.{IsLowest}
use Rattle.usage_checks.specs.FormalRules.{BreakSizes}
use Rattle.usage_checks.proofs.formal_rules.fault_of_sizes.Given as goal

abbrev pub invariant-loop-formal : goal.invariant-loop-formal
invariant-loop-formal l =
    IsLowest (BreakSizes (entries_of l.scope) (map formal_of (take l.formal-index l.formals))) l.found
