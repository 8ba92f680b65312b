use Rattle.std.proofs.Common.{◌≡◌, None, ap, sym, ◌∙◌, cond, int_div}
use Rattle.std.specs.Option.{option_map}
use Rattle.word_arithmetic.specs.Range.{ends_of, corners, fitting}
use Rattle.word_arithmetic.proofs.SumLaws.{exact_by}
use Rattle.word_arithmetic.proofs.QuotientLaws.{quotient_exact}
use Rattle.word_arithmetic.proofs.ranges.Range.div.Goals as goal

pub returns-clause-rule : goal.returns-clause-rule
returns-clause-rule c =
    let r = ends_of c.args.self in
    let s = ends_of c.args.divisor in
    let inner : option_map ends_of c.corners.result ≡ fitting (corners int_div r s) =
    c.corners.ensures int_div (λ x y z f g h p. p) in
    inner ∙ ap (λ b. cond b None (fitting (corners int_div r s)))
    (sym (sym c.contains.ensures.rule ∙ c.if-contains.false))

pub returns-clause-exact : goal.returns-clause-exact
returns-clause-exact c =
    exact_by (returns-clause-rule c)
    (quotient_exact (ends_of c.args.self) (ends_of c.args.divisor) c.args.self.ordered c.args.divisor.ordered)
