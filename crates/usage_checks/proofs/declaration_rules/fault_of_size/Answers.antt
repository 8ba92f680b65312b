use Rattle.program_uses.proofs.LowestOfBoth.{lowest_of, lowest_at}
use Rattle.usage_checks.specs.DeclarationRules.{IsNoSize}
use Rattle.usage_checks.proofs.declaration_rules.fault_of_size.Goals as goal

pub returns : goal.returns
returns c =
    lowest_of c.lower.ensures c.fault_of.ensures (lowest_at IsNoSize c.value_as.ensures c.no_size.ensures)
