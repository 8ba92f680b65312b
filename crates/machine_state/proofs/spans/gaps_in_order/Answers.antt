use Rattle.std.proofs.Common.{◌≡◌, ◌++◌, ◌∙◌, sym, ap, arith, List, [], drop}
use Rattle.std.proofs.lemmas.List.{drop_all}
use Rattle.machine_state.specs.declared.holding.Span.{Span}
use Rattle.machine_state.proofs.Gaps.{gaps_from, gaps_are_runs}
use Rattle.machine_state.proofs.spans.gaps_in_order.Goals as goal

pub returns : goal.returns
returns c =
    let past : drop c.loop-span.span-index c.args.spans.now ≡ [] =
    drop_all c.loop-span.span-index c.args.spans.now (omega arith) in
    c.in_ok-add-2.ensures
    ∙ (ap (λ (l : List Span). c.loop-span.gaps.items ++ gaps_from c.args.end c.loop-span.from l) (sym past)
    ∙ (c.loop-span.invariant ∙ gaps_are_runs c.args.end c.args.spans.now c.requires))
