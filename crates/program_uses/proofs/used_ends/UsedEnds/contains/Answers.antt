use Rattle.std.proofs.Common.{◌∙◌}
use Rattle.program_uses.proofs.EndsJoined.{has_end}
use Rattle.program_uses.proofs.used_ends.UsedEnds.contains.Goals as goal

pub returns : goal.returns
returns c = c.contains.ensures ∙ has_end c.args.self.now.set.keys c.args.end
