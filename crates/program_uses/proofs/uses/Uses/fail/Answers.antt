use Rattle.std.proofs.Common.{refl}
use Rattle.program_uses.specs.Sets.{members_of}
use Rattle.program_uses.proofs.uses.Uses.fail.Goals as goal

pub returns-clause-same : goal.returns-clause-same
unfolding members_of
returns-clause-same c u = refl
