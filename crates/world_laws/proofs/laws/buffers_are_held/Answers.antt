use Rattle.world_laws.proofs.ParkedLaws.{arrivals_follow, buffers_are_held}
use Rattle.world_laws.proofs.laws.buffers_are_held.Goals as goal

pub returns-clause-held : goal.returns-clause-held
returns-clause-held c = buffers_are_held

pub returns-clause-arrivals : goal.returns-clause-arrivals
returns-clause-arrivals c = arrivals_follow
