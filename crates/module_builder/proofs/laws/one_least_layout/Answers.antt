use Rattle.module_builder.proofs.Places.{one_least}
use Rattle.module_builder.proofs.laws.one_least_layout.Goals as goal

pub returns : goal.returns
returns c = one_least
