use Rattle.std.proofs.Common.{map}
use Rattle.occam_parser.specs.Expressions.{Two}
use Rattle.occam_parser.specs.Views.{term_of, with_others}
use Rattle.usage_reasons.specs.Causes.{AreJoined}
use Rattle.usage_reasons.specs.Sites.{known_at}
use Rattle.usage_reasons.proofs.site.Site.chain_ranges.Given as goal

-- of two operands the loop changes nothing
abbrev pub invariant-loop-other : goal.invariant-loop-other
invariant-loop-other l =
    AreJoined (known_at l.self) (with_others (Two (term_of l.first) (term_of l.second)) (map term_of l.others))
    l.ranges.left l.ranges.right
