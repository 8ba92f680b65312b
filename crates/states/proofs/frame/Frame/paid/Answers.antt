use Rattle.std.proofs.Common.{◌≡◌, ◌+◌, arith, ap, sym, ◌∙◌}
use Rattle.std.specs.Prelude.{sum_by}
use Rattle.std.specs.List.{list_all}
use Rattle.states.specs.State.{Facts}
use Rattle.states.specs.Below.{entries_hold, is_whole, price}
use Rattle.states.proofs.frame.Frame.paid.Goals as goal

pub returns-clause-hold : goal.returns-clause-hold
returns-clause-hold c =
    ap (λ (f : Facts). entries_hold f c.args.row.now) (sym c.entries_cost.ensures.facts)
    ∙ c.in_ok-paid.ensures.passed.hold

pub returns-clause-whole : goal.returns-clause-whole
returns-clause-whole c =
    ap (λ (f : Facts). list_all (is_whole f) c.args.row.now) (sym c.entries_cost.ensures.facts)
    ∙ c.in_ok-paid.ensures.passed.whole

pub returns-clause-paid : goal.returns-clause-paid
returns-clause-paid c =
    let none : c.in_ok-paid.paid + 0 ≡ c.in_ok-paid.paid = omega arith in
    ap (λ (f : Facts). sum_by (price f) c.args.row.now) (sym c.entries_cost.ensures.facts)
    ∙ (c.in_ok-paid.ensures.passed.due ∙ none)
