use Rattle.std.proofs.Common.{sym, subst}
use Rattle.std.specs.List.Sorted.{IsStrictlyIncreasing}
use Rattle.std.proofs.lemmas.List.Filters.{dedup_is}
use Rattle.std.proofs.lemmas.Map.Keys.{IsStrictlyIncreasing-dedup}
use Rattle.program_uses.proofs.SameNumbers.{distinct_same}
use Rattle.program_uses.proofs.listing.distinct.Goals as goal

pub returns-clause-same : goal.returns-clause-same
returns-clause-same c =
    distinct_same _ _ _ c.sort_unstable.ensures.permutation (dedup_is _ _ _ c.dedup.ensures.filtered)

pub returns-clause-rising : goal.returns-clause-rising
returns-clause-rising c =
    subst IsStrictlyIncreasing (sym (dedup_is _ _ _ c.dedup.ensures.filtered))
    (IsStrictlyIncreasing-dedup _ c.sort_unstable.ensures.sorted)
