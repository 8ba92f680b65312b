use Rattle.std.proofs.Common.{rules, ◌∙◌, sym, subst, List}
use Rattle.std.proofs.lemmas.List.Sorted.{IsNonDecreasingBy-from_sort_by_key}
use Rattle.std.proofs.lemmas.Result.{IfOk-weaker}
use Rattle.std.specs.List.Sorted.{IsNonDecreasingBy}
use Rattle.machine_state.specs.declared.holding.Span.{Span}
use Rattle.machine_state.proofs.Gaps.{gaps_of_sorted}
use Rattle.machine_state.proofs.spans.gaps.Goals as goal

pub gaps_in_order-requires : goal.gaps_in_order-requires
gaps_in_order-requires c =
    let sorted : IsNonDecreasingBy (λ (s : Span). s.start) c.sort_unstable_by_key.new.self.items =
    IsNonDecreasingBy-from_sort_by_key (λ (s : Span). s.start) _ c.sort_unstable_by_key.ensures.sorted
    (λ a r q k. search rules) in
    subst (λ (xs : List Span). IsNonDecreasingBy (λ (s : Span). s.start) xs) (sym c.deref.ensures.value) sorted

pub returns : goal.returns
returns c =
    IfOk-weaker c.gaps_in_order.result _ _ (λ v e. e ∙ gaps_of_sorted c.args.end c.args.spans.items
    c.sort_unstable_by_key.new.self.items c.deref.result.now c.sort_unstable_by_key.ensures.permutation
    c.deref.ensures.value) c.gaps_in_order.ensures
