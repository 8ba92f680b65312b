use Rattle.std.proofs.Common.{arith}
use Rattle.occam_parser.specs.Expressions.{written}
use Rattle.occam_parser.specs.Views.{expression_of}
use Rattle.usage_reasons.specs.Sites.{known_at}
use Rattle.usage_reasons.proofs.Places.{itself_if}
use Rattle.usage_reasons.proofs.site.Site.no_subscript.Goals as goal

pub returns-in-Subscripts : goal.returns-in-Subscripts
returns-in-Subscripts c =
    itself_if (known_at c.args.self.now) (written (expression_of c.args.subscript.now)) c.args.at c.width_of.result
    c.outside.result c.meant_if.result c.meant_if.ensures (omega (arith, c.ranges.at.fits)) c.width_of.ensures
    c.outside.ensures
