use Rattle.std.proofs.Common.{refl}
use Rattle.word_arithmetic.proofs.EndsLaws.{unwrap_or_ends}
use Rattle.word_arithmetic.proofs.ranges.wide.or_full.Goals as goal

pub returns : goal.returns
returns c = unwrap_or_ends c.args.range c.full.result c.unwrap_or.ensures refl c.full.ensures
