use Rattle.std.proofs.Common.{◌∙◌, ℤ, List, sym, ap, subst}
use Rattle.std.specs.List.Sorted.{IsStrictlySortedBy}
use Rattle.std.specs.Ordering.{int_eq, int_cmp}
use Rattle.std.proofs.lemmas.Cmp.{int_cmp_total}
use Rattle.std.proofs.lemmas.List.Filters.{dedup_is}
use Rattle.std.proofs.lemmas.List.Kept.{IsStrictlySortedBy-dedup}
use Rattle.std.proofs.lemmas.List.Sorted.{list_any-IsPermutation}
use Rattle.certificate.specs.Named.{is_one_of}
use Rattle.certificate.proofs.NamedLaws.{same_once, same_ties}
use Rattle.certificate.proofs.named.distinct.Goals as goal

pub returns-clause-same : goal.returns-clause-same
returns-clause-same c = λ j.
    ap (λ (numbers : List ℤ). is_one_of numbers j) (dedup_is _ _ _ c.dedup.ensures.filtered) ∙ same_once _ j
    ∙ sym (list_any-IsPermutation (int_eq j) _ _ c.sort_unstable.ensures.permutation)

pub returns-clause-rise : goal.returns-clause-rise
returns-clause-rise c =
    subst (IsStrictlySortedBy int_cmp) (sym (dedup_is _ _ _ c.dedup.ensures.filtered))
    (IsStrictlySortedBy-dedup int_cmp_total same_ties _ c.sort_unstable.ensures.sorted)
