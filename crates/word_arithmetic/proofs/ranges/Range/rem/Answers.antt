use Rattle.std.proofs.Common.{rules}
use Rattle.word_arithmetic.proofs.RemainderLaws.{remainder_by_rule}
use Rattle.word_arithmetic.proofs.ranges.Range.rem.Goals as goal

pub returns-then-can_fail_to_divide-clause-bounds : goal.returns-then-can_fail_to_divide-clause-bounds
returns-then-can_fail_to_divide-clause-bounds c =
    remainder_by_rule _ _ _ (search rules) (search rules) c.args.self.ordered (search rules)

pub returns-clause-bounds : goal.returns-clause-bounds
returns-clause-bounds c = remainder_by_rule _ _ _ (search rules) (search rules) c.args.self.ordered (search rules)
