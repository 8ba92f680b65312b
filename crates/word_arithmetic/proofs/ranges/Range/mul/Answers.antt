use Rattle.std.proofs.Common.{◌*ℤ◌}
use Rattle.word_arithmetic.specs.Range.{ends_of}
use Rattle.word_arithmetic.proofs.SumLaws.{exact_by}
use Rattle.word_arithmetic.proofs.CornerLaws.{product_exact}
use Rattle.word_arithmetic.proofs.ranges.Range.mul.Goals as goal

pub returns-clause-rule : goal.returns-clause-rule
returns-clause-rule c = c.corners.ensures (λ x y. x *ℤ y) (λ x y z f g h p. p)

pub returns-clause-exact : goal.returns-clause-exact
returns-clause-exact c =
    exact_by (returns-clause-rule c)
    (product_exact (ends_of c.args.self) (ends_of c.args.other) c.args.self.ordered c.args.other.ordered)
