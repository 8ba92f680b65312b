use Rattle.std.proofs.Common.{arith, ◌-ℤ◌}
use Rattle.std.proofs.lemmas.Int.{ints}
use Rattle.word_arithmetic.specs.Range.{ends_of}
use Rattle.word_arithmetic.proofs.SumLaws.{exact_by, difference_exact}
use Rattle.word_arithmetic.proofs.ranges.Range.sub.Goals as goal

pub fitting-requires : goal.fitting-requires
fitting-requires c =
    let r = c.args.self.ordered in
    let s = c.args.other.ordered in
    omega (arith, ints)

pub returns-clause-rule : goal.returns-clause-rule
returns-clause-rule c =
    c.fitting.ensures (record { lo = c.args.self.lo -ℤ c.args.other.hi; hi = c.args.self.hi -ℤ c.args.other.lo })
    (omega (arith, ints)) (omega (arith, ints))

pub returns-clause-exact : goal.returns-clause-exact
returns-clause-exact c =
    exact_by (returns-clause-rule c)
    (difference_exact (ends_of c.args.self) (ends_of c.args.other) c.args.self.ordered c.args.other.ordered)
