use Rattle.std.proofs.Common.{arith, ap, length, length-append, ◌∷◌, []}
use Rattle.occam_layout.specs.declared.mark.Mark.TheVariants as mark
use Rattle.occam_parser.specs.Expressions.{written}
use Rattle.occam_parser.specs.Lines.{in_brackets}
use Rattle.occam_parser.specs.LineViews.{any_of}
use Rattle.occam_parser.specs.Terminals.{Mark}
use Rattle.occam_parser.specs.Views.{expression_of}
use Rattle.usage_reasons.proofs.tokens.width_in_brackets.Goals as goal

pub returns-in-Some : goal.returns-in-Some
returns-in-Some c =
    let inner = written (expression_of c.in-Some.expr) in
    omega (
      arith,
      ap (λ e. length (in_brackets (any_of e))) c.in-Some.is,
      length-append (Mark mark.OpenBracket ∷ inner) (Mark mark.CloseBracket ∷ []),
    )
