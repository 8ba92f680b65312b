use Rattle.std.proofs.Common.{rules}
use Rattle.local_rules.specs.LocalRules.{local_rule}
use Rattle.local_rules.proofs.word_rules.adjust_workspace.Goals as goal

pub returns-clause-belongs : goal.returns-clause-belongs
returns-clause-belongs c =
    c.goes_on.ensures.belongs c.args.place.now.module.now
    (c.move_to.ensures.belongs c.args.place.now.module.now c.requires)

pub returns-clause-ruling : goal.returns-clause-ruling
unfolding local_rule
returns-clause-ruling c = search rules
