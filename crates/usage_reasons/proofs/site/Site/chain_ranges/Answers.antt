use Rattle.std.proofs.Common.{arith}
use Rattle.occam_parser.specs.Views.{term_of}
use Rattle.usage_reasons.specs.Sites.{known_at}
use Rattle.usage_reasons.proofs.Causes.{joined_long}
use Rattle.usage_reasons.proofs.site.Site.chain_ranges.Goals as goal

pub loop-other-preserved : goal.loop-other-preserved
loop-other-preserved c =
    joined_long (known_at c.args.self.now) (term_of c.args.first.now) (term_of c.args.second.now) c.args.others.now
    c.loop-other.other-index c.in-Some-Ok.left c.in-Some-Ok.right (omega arith)
