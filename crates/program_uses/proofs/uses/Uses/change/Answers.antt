use Rattle.program_uses.proofs.Adding.{adds_both}
use Rattle.program_uses.proofs.uses.Uses.change.Goals as goal

pub returns : goal.returns
returns c = adds_both c.change_name.ensures c.read_if_any.ensures
