use Rattle.std.specs.List.Sorted.{IsStrictlySortedBy}
use Rattle.certificate.proofs.modules.Module.named_parameters_of.Goals as goal

pub returns-in-None-clause-rise : goal.returns-in-None-clause-rise
unfolding IsStrictlySortedBy
returns-in-None-clause-rise c = tt
