use Rattle.program_uses.proofs.LowestOfBoth.{lowest_of, lowest_at2}
use Rattle.usage_checks.specs.LineRules.{IsNoCount}
use Rattle.usage_checks.proofs.line_rules.fault_of_replicator.Goals as goal

pub returns : goal.returns
returns c =
    lowest_of c.lower-2.ensures c.fault_of.ensures
    (lowest_of c.lower.ensures c.fault_of-2.ensures
    (lowest_at2 IsNoCount c.value_as-base.ensures c.value_as.ensures c.no_count-counted.ensures))
