use Rattle.std.proofs.Common.{arith, ◌≡◌, ◌*◌, ℕ, sym, ap, ◌∙◌}
use Rattle.std.proofs.lemmas.Int.{ints}
use Rattle.states.specs.Below.{price}
use Rattle.states.specs.Views.{state_of}
use Rattle.states.proofs.Prices.{price-free, price-due}
use Rattle.explanation_parts.specs.Ways.{seen_in}
use Rattle.explanation_parts.specs.Costs.{capped}
use Rattle.explanation_parts.proofs.costs.loop_price.Goals as goal

pub returns-then-not-holds_constant-2 : goal.returns-then-not-holds_constant-2
returns-then-not-holds_constant-2 c =
    let count_is = c.from-in-Loop.ensures in
    let none : price (seen_in c.args.way (state_of c.args.state.now)) c.args.entry.now ≡ 0 =
    price-free
    (seen_in c.args.way (state_of c.args.state.now)) c.args.entry.now c.in-Loop.base c.in-Loop.count c.in-Loop.weight
    _ _ c.seen_fact-in-Loop.result c.in-Loop.is (omega (arith, ints)) c.seen_fact-in-Loop.ensures.value
    (omega (arith, ints, count_is)) (sym c.holds_constant-in-Loop.ensures ∙ c.if-not-holds_constant-2.true) in
    sym (ap capped none)

pub returns-else-not-holds_constant-2 : goal.returns-else-not-holds_constant-2
returns-else-not-holds_constant-2 c =
    let base_is = c.from.ensures in
    let count_is = c.from-in-Loop.ensures in
    let due =
    price-due
    (seen_in c.args.way (state_of c.args.state.now)) c.args.entry.now c.in-Loop.base c.in-Loop.count c.in-Loop.weight
    _ _ _ _ c.seen_fact.result c.seen_fact-in-Loop.result c.in-Loop.is (omega (arith, ints))
    (omega (arith, ints)) c.seen_fact.ensures.value c.seen_fact-in-Loop.ensures.value
    (omega (arith, ints, base_is)) (omega (arith, ints, count_is))
    (sym c.holds_constant.ensures ∙ c.if-not-holds_constant.false)
    (sym c.holds_constant-in-Loop.ensures ∙ c.if-not-holds_constant-2.false) in
    c.saturating_mul.ensures
    ∙ (ap (λ (n : ℕ). capped (n * c.from-in-Loop-3.result)) c.from-in-Loop-2.ensures
    ∙ (ap (λ (n : ℕ). capped (c.in-Loop.weight * n)) (c.from-in-Loop-3.ensures ∙ c.saturating_sub.ensures)
    ∙ ap capped (sym due)))
