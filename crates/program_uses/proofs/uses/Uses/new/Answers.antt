use Rattle.program_uses.proofs.PartsJoined.{has_nothing}
use Rattle.program_uses.proofs.uses.Uses.new.Goals as goal

pub returns : goal.returns
returns c = has_nothing _ c.new.ensures c.new-2.ensures c.new-3.ensures
