use Rattle.module_builder.proofs.OrderLaws.{outer_first}
use Rattle.module_builder.proofs.laws.outer_pars_come_first.Goals as goal

pub returns : goal.returns
returns c = outer_first
