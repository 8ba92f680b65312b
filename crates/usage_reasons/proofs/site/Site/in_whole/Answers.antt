use Rattle.std.proofs.Common.{arith}
use Rattle.occam_parser.specs.Expressions.{written}
use Rattle.occam_parser.specs.Views.{expression_of}
use Rattle.usage_reasons.specs.Sites.{known_at}
use Rattle.usage_reasons.proofs.Places.{itself_if}
use Rattle.usage_reasons.proofs.site.Site.in_whole.Goals as goal

pub returns-in-Ranges : goal.returns-in-Ranges
returns-in-Ranges c =
    itself_if (known_at c.args.self.now) (written (expression_of c.args.expr.now)) c.args.at c.width_of.result
    c.operator_fails.result c.meant_if.result c.meant_if.ensures (omega (arith, c.ranges.at.fits)) c.width_of.ensures
    c.operator_fails.ensures
