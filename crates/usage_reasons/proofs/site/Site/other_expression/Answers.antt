use Rattle.std.proofs.Common.{arith}
use Rattle.occam_parser.specs.Views.{expression_of}
use Rattle.usage_reasons.specs.Sites.{known_at}
use Rattle.usage_reasons.proofs.Causes.{unfit_expression}
use Rattle.usage_reasons.proofs.site.Site.other_expression.Goals as goal

pub returns : goal.returns
returns c =
    unfit_expression (known_at c.args.self.now) (expression_of c.args.expr.now) c.args.at c.width_of.result
    c.type_of.result c.why_unfit-why.result c.meant_if.result c.meant_if.ensures (omega (arith, c.ranges.at.fits))
    c.width_of.ensures c.type_of.ensures c.why_unfit-why.ensures
