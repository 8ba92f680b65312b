use Rattle.std.proofs.Common.{rules}
use Rattle.word_arithmetic.proofs.EndsLaws.{by_rule, is_range}
use Rattle.word_arithmetic.proofs.ModularLaws.{word_difference_holds}
use Rattle.word_arithmetic.proofs.ranges.Range.minus.Goals as goal

pub returns-clause-members : goal.returns-clause-members
returns-clause-members c =
    by_rule (search rules) (word_difference_holds _ _ (search (rules, is_range)) (search (rules, is_range)))
