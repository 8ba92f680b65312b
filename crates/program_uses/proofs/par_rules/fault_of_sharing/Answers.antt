use Rattle.std.proofs.Common.{◌∙◌, arith}
use Rattle.program_uses.specs.Lowest.{lower}
use Rattle.program_uses.proofs.PartsJoined.{lowest_shared}
use Rattle.program_uses.proofs.par_rules.fault_of_sharing.Goals as goal

pub returns : goal.returns
returns c =
    lowest_shared c.args.count c.args.before.now c.args.component.now c.shares_variable.result c.shares_end.result
    (omega arith) c.shares_variable.ensures c.shares_end.ensures
    (c.lower.ensures ∙ (λ i. lower (c.told_unless.ensures i) (c.told_unless-2.ensures i)))
