use Rattle.std.proofs.Common.{rules}
use Rattle.word_arithmetic.proofs.TestLaws.{left_by_rule}
use Rattle.word_arithmetic.proofs.ranges.Range.left_by.Goals as goal

pub returns-clause-narrows : goal.returns-clause-narrows
returns-clause-narrows c = left_by_rule c.args.is_inside _ _ _ c.args.self.ordered (search rules)
