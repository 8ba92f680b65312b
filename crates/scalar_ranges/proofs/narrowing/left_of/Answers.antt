use Rattle.std.proofs.Common.{FitsSigned, rules, ap, ◌∙◌}
use Rattle.std.specs.Int.{w32}
use Rattle.std.proofs.lemmas.Int.{to_z-of_z}
use Rattle.word_arithmetic.specs.Range.{ends_of, narrowed}
use Rattle.scalar_ranges.proofs.Words.{left_is}
use Rattle.scalar_ranges.proofs.narrowing.left_of.Goals as goal

pub returns : goal.returns
returns c =
    let f : FitsSigned w32 c.args.range.lo = search rules in
    let g : FitsSigned w32 c.args.range.hi = search rules in
    c.narrow.ensures.rule
    ∙ ap (λ v. narrowed c.args.comparison v (ends_of c.args.range))
    (to_z-of_z w32 c.args.constant c.ranges.constant)
    ∙ left_is c.args.comparison c.args.constant c.args.range.lo c.args.range.hi f g c.args.range.ordered
