use Rattle.std.proofs.Common.{rules}
use Rattle.word_arithmetic.specs.Word.{word_xor}
use Rattle.word_arithmetic.proofs.EndsLaws.{by_rule, is_range}
use Rattle.word_arithmetic.proofs.BitLaws.{xor_holds}
use Rattle.word_arithmetic.proofs.ranges.Range.xor.Goals as goal

pub returns-clause-rule : goal.returns-clause-rule
returns-clause-rule c = c.either.ensures (word_xor c.args.self.lo c.args.other.lo) (search rules)

pub returns-clause-members : goal.returns-clause-members
returns-clause-members c =
    by_rule (returns-clause-rule c) (xor_holds _ _ (search (rules, is_range)) (search (rules, is_range)))
