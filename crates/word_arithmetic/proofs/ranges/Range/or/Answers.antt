use Rattle.std.proofs.Common.{rules}
use Rattle.word_arithmetic.specs.Word.{word_or}
use Rattle.word_arithmetic.proofs.EndsLaws.{by_rule, is_range}
use Rattle.word_arithmetic.proofs.BitLaws.{or_holds}
use Rattle.word_arithmetic.proofs.ranges.Range.or.Goals as goal

pub returns-clause-rule : goal.returns-clause-rule
returns-clause-rule c = c.either.ensures (word_or c.args.self.lo c.args.other.lo) (search rules)

pub returns-clause-members : goal.returns-clause-members
returns-clause-members c =
    by_rule (returns-clause-rule c) (or_holds _ _ (search (rules, is_range)) (search (rules, is_range)))
