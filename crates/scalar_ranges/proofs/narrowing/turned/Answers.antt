use Rattle.scalar_ranges.proofs.Comparisons.{is_turned}
use Rattle.scalar_ranges.proofs.narrowing.turned.Goals as goal

pub returns : goal.returns
returns c = is_turned c.args.comparison c.mirrored.result c.mirrored.ensures
