use Rattle.module_builder.proofs.OrderLaws.{one_order, one_arrangement}
use Rattle.module_builder.proofs.laws.one_arrangement.Goals as goal

pub returns-clause-order : goal.returns-clause-order
returns-clause-order c = one_order

pub returns-clause-arrangement : goal.returns-clause-arrangement
returns-clause-arrangement c = one_arrangement
