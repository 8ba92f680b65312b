use Rattle.std.proofs.Common.{arith, sym, ◌∙◌}
use Rattle.module_format.specs.Contents.{label_of}
use Rattle.states.specs.Below.{view, below}
use Rattle.states.specs.Frames.{frame_facts}
use Rattle.states.specs.Views.{state_of}
use Rattle.states.proofs.Comparisons.{entries_hold-true}
use Rattle.states.proofs.Entering.{compared-paid}
use Rattle.states.proofs.comparison.recalled.Goals as goal

pub returns-clause-cost : goal.returns-clause-cost
unfolding below
returns-clause-cost c =
    let paid = c.in_ok-paid.ensures.paid in
    let s = state_of c.args.state.now in
    let t = label_of c.args.row.now in
    compared-paid s.number c.in_ok-paid.paid c.in_ok-cost.cost (view s) t
    (sym c.stands.ensures ∙ c.if-not-stands.false)
    (entries_hold-true (frame_facts c.args.state.now.frame) t.entries c.requires.apart paid.knows)
    paid.whole paid.due c.in_ok-cost.ensures.1 (omega (arith, c.if-state-cost.false))
