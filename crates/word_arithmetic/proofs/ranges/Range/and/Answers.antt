use Rattle.std.proofs.Common.{rules, w32}
use Rattle.std.specs.Int.{int_min}
use Rattle.word_arithmetic.specs.Word.{word_and}
use Rattle.word_arithmetic.specs.Range.{ends_of}
use Rattle.word_arithmetic.proofs.EndsLaws.{by_rule, is_range, passed_on}
use Rattle.word_arithmetic.proofs.BitLaws.{and_holds}
use Rattle.word_arithmetic.proofs.ranges.Range.and.Goals as goal

pub returns-clause-rule : goal.returns-clause-rule
returns-clause-rule c =
    let r = ends_of c.args.self in
    let s = ends_of c.args.other in
    c.bits.ensures (word_and r.lo s.lo) (int_min r.hi s.hi) (search rules)
    (passed_on w32 w32 int_min r.hi s.hi c.min.result (search rules) (search rules) (search rules) c.min.ensures.value)

pub returns-clause-members : goal.returns-clause-members
returns-clause-members c =
    by_rule (returns-clause-rule c) (and_holds _ _ (search (rules, is_range)) (search (rules, is_range)))
