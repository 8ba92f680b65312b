use Rattle.usage_reasons.specs.AtFault.{IsAtFault}
use Rattle.usage_reasons.specs.Causes.{Explains}
use Rattle.usage_reasons.specs.Sites.{known_at}
use Rattle.usage_reasons.proofs.AtFault.{explained_if}
use Rattle.usage_reasons.proofs.Parts.{first_of}
use Rattle.usage_reasons.proofs.site.Site.in_replicator.Goals as goal

pub returns : goal.returns
returns c =
    let es = known_at c.args.self.now in
    first_of IsAtFault c.or.result c.last_index.result c.or-2.result c.or-2.ensures
    (explained_if es c.or.result
    (first_of (Explains es) c.or-inner.result c.count_below_zero-below.result c.or.result c.or.ensures
    (first_of (Explains es) c.in_wanted-base.result c.in_wanted.result c.or-inner.result c.or-inner.ensures
    c.in_wanted-base.ensures c.in_wanted.ensures)
    c.count_below_zero-below.ensures))
    c.last_index.ensures
