use Rattle.std.proofs.Common.{arith}
use Rattle.std.proofs.lemmas.Int.{ints}
use Rattle.word_arithmetic.specs.Range.{ends_of}
use Rattle.local_rules.proofs.Narrowed.{shift-right-is}
use Rattle.local_rules.proofs.numbers.shift_range.Goals as goal

pub returns-in-Right : goal.returns-in-Right
returns-in-Right c =
    shift-right-is c.args.op (ends_of c.args.range) (ends_of c.args.counts) (ends_of c.shift_right.result) c.in-Right.is
    (omega (arith, ints)) (omega (arith, ints)) c.shift_right.ensures.rule
