use Rattle.std.proofs.Common.{rules}
use Rattle.word_arithmetic.proofs.EndsLaws.{is_range}
use Rattle.word_arithmetic.proofs.NarrowingLaws.{narrowed_by_rule}
use Rattle.word_arithmetic.proofs.ranges.Range.narrow.Goals as goal

pub returns-clause-narrows : goal.returns-clause-narrows
returns-clause-narrows c =
    narrowed_by_rule _ c.args.constant _ c.args.comparison (search (rules, is_range)) (search rules)
