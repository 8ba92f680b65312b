use Rattle.std.proofs.Common.{rules}
use Rattle.local_rules.proofs.memory.load_non_local.Goals as goal

pub returns-clause-ruling : goal.returns-clause-ruling
returns-clause-ruling c = search rules

pub returns-clause-belongs : goal.returns-clause-belongs
returns-clause-belongs c =
    let m = c.args.place.now.module.now in
    c.with_fact_a.ensures.belongs m (c.sum_reached.ensures.belongs m c.requires)
