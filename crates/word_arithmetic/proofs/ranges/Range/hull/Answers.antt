use Rattle.std.proofs.Common.{rules, sym, subst}
use Rattle.word_arithmetic.specs.Range.{IsWithin, ends_of}
use Rattle.word_arithmetic.proofs.EndsLaws.{hull_least}
use Rattle.word_arithmetic.proofs.ranges.Range.hull.Goals as goal

pub returns-clause-rule : goal.returns-clause-rule
returns-clause-rule c = search rules

pub returns-clause-least : goal.returns-clause-least
returns-clause-least c t p q =
    subst (λ h. IsWithin h t) (sym (returns-clause-rule c))
    (hull_least (ends_of c.args.self) (ends_of c.args.other) t c.args.self.ordered c.args.other.ordered p q)
