use Rattle.std.proofs.Common.{arith}
use Rattle.occam_parser.specs.Views.{term_of}
use Rattle.usage_reasons.specs.Sites.{known_at}
use Rattle.usage_reasons.proofs.Causes.{unfit_operand}
use Rattle.usage_reasons.proofs.site.Site.unfit.Goals as goal

pub returns : goal.returns
returns c =
    unfit_operand (known_at c.args.self.now) (term_of c.args.operand.now) c.args.at c.width_of_operand.result
    c.read_operand-found.result.expr_type c.why_unfit.result c.meant_if.result c.meant_if.ensures
    (omega (arith, c.ranges.at.fits)) c.width_of_operand.ensures c.read_operand-found.ensures.types c.why_unfit.ensures
