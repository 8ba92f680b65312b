use Rattle.std.proofs.Common.{map, take, option_map}
use Rattle.occam_parser.specs.Views.{expression_of}
use Rattle.scalar_ranges.specs.Environments.{item_at}
use Rattle.scalar_ranges.specs.Scopes.{entries_of, meaning_of}
use Rattle.program_uses.specs.Lowest.{IsLowest}
use Rattle.program_uses.specs.Signatures.{signatures_of, parameters_in}
use Rattle.usage_checks.specs.EachBroken.{BreaksEach}
use Rattle.usage_checks.specs.InstanceRules.{BreaksOne}
use Rattle.usage_checks.proofs.instance_rules.fault_of_actuals.Given as goal

abbrev pub invariant-loop-place : goal.invariant-loop-place
invariant-loop-place l =
    let qs = parameters_in (signatures_of l.signatures) (option_map meaning_of l.procedure) in
    IsLowest (BreaksEach (λ i. BreaksOne l.position (entries_of l.scope) (item_at i qs)) 0
    (map expression_of (take l.place l.actuals))) l.found
