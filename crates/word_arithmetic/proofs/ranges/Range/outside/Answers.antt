use Rattle.std.proofs.Common.{rules}
use Rattle.word_arithmetic.proofs.NarrowingLaws.{outside_by_rule}
use Rattle.word_arithmetic.proofs.ranges.Range.outside.Goals as goal

pub returns-clause-narrows : goal.returns-clause-narrows
returns-clause-narrows c = outside_by_rule _ _ _ c.args.self.ordered (search rules)
