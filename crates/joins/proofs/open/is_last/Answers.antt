use Rattle.std.proofs.Common.{◌∙◌}
use Rattle.joins.proofs.Leaving.{nobody_left}
use Rattle.joins.proofs.open.is_last.Goals as goal

pub returns : goal.returns
returns c = c.are_all.ensures ∙ nobody_left c.args.process c.args.members.now
