use Rattle.std.proofs.Common.{◌≤◌, ◌+◌, arith, sym, ap, ◌∙◌}
use Rattle.module_format.specs.Contents.{label_of}
use Rattle.states.specs.Below.{view, below}
use Rattle.states.specs.Views.{state_of}
use Rattle.states.proofs.Entering.{compared-paid}
use Rattle.states.proofs.comparison.cost_by_runs.Goals as goal

pub returns-clause-cost : goal.returns-clause-cost
unfolding below
returns-clause-cost c =
    let s = state_of c.args.state.now in
    let t = label_of c.args.row.now in
    let entries = c.deref.ensures.value in
    let paid = rw entries at c.in_ok-paid.ensures in
    let own = c.from-2.ensures in
    let below_own = c.if-from-cost.false in
    let covered : c.in_ok-cost.cost ≤ s.number = omega (arith, own, below_own) in
    compared-paid s.number c.in_ok-paid.paid c.in_ok-cost.cost (view s) t
    (sym c.stands.ensures ∙ c.if-not-stands.false)
    paid.hold paid.whole paid.paid
    (c.in_ok-cost.ensures.1 ∙ ap (λ n. c.in_ok-paid.paid + n) c.from.ensures) covered
