use Rattle.std.proofs.Common.{option_map}
use Rattle.scalar_ranges.specs.Scopes.{meaning_of}
use Rattle.program_uses.proofs.LowestOfBoth.{lowest_of, lowest_at}
use Rattle.usage_checks.specs.InstanceRules.{IsNoValue}
use Rattle.usage_checks.proofs.instance_rules.fault_of_expression.Goals as goal

pub returns : goal.returns
returns c =
    lowest_of c.lower.ensures c.fault_of.ensures
    (lowest_at (IsNoValue (option_map meaning_of c.args.formal)) c.type_of.ensures c.no_value.ensures)
