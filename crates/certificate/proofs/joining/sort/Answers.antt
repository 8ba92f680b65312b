use Rattle.std.proofs.Common.{int_le, int_lt, ◌&&◌, sym, rules}
use Rattle.std.proofs.lemmas.Fn.{always_returns_same}
use Rattle.std.proofs.lemmas.List.Sorted.{list_any-IsPermutation}
use Rattle.module_format.specs.declared.rows.Interval.{Interval}
use Rattle.certificate.proofs.WordLaws.{begin_in_order}
use Rattle.certificate.proofs.joining.sort.Goals as goal

pub returns-clause-same : goal.returns-clause-same
returns-clause-same c = λ k.
    sym (list_any-IsPermutation (λ (i : Interval). int_le i.lo k && int_lt k i.hi) c.args.intervals.now.items
    c.sort_unstable_by_key.new.self.items c.sort_unstable_by_key.ensures.permutation)

pub returns-clause-order : goal.returns-clause-order
returns-clause-order c =
    begin_in_order c.sort_unstable_by_key.new.self.items
    (c.sort_unstable_by_key.ensures.sorted (λ (i : Interval). i.lo)
    (always_returns_same _ _ _ (λ a r f' h. search rules)))
