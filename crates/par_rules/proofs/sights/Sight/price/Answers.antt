use Rattle.std.proofs.Common.{arith, ◌≡◌, ◌<◌, ◌*◌, ℕ, sym, subst, ap, ◌∙◌}
use Rattle.std.proofs.lemmas.Int.{ints}
use Rattle.std.specs.Prelude.{SomeIff}
use Rattle.states.specs.Below.{price}
use Rattle.par_rules.specs.Sights.{facts_in}
use Rattle.states.proofs.Prices.{price-free, price-due}
use Rattle.par_rules.proofs.sights.Sight.price.Goals as goal

pub returns-then-not-holds_constant-2 : goal.returns-then-not-holds_constant-2
returns-then-not-holds_constant-2 c =
    let count_is = c.from-in-Loop.ensures in
    let none : price (facts_in c.args.self.now) c.args.entry.now ≡ 0 =
    price-free
    (facts_in c.args.self.now) c.args.entry.now c.in-Loop.base c.in-Loop.count c.in-Loop.weight _ _
    c.fact_at-in-Loop.result c.in-Loop.is (omega (arith, ints)) c.fact_at-in-Loop.ensures.value
    (omega (arith, ints, count_is)) (sym c.holds_constant-in-Loop.ensures ∙ c.if-not-holds_constant-2.true) in
    (subst (λ (n : ℕ). n < 340282366920938463463374607431768211456) (sym none) (omega arith), sym none)

pub returns-else-not-holds_constant-2 : goal.returns-else-not-holds_constant-2
returns-else-not-holds_constant-2 c =
    let base_is = c.from.ensures in
    let count_is = c.from-in-Loop.ensures in
    let due =
    price-due
    (facts_in c.args.self.now) c.args.entry.now c.in-Loop.base c.in-Loop.count c.in-Loop.weight _ _ _ _
    c.fact_at.result c.fact_at-in-Loop.result c.in-Loop.is (omega (arith, ints))
    (omega (arith, ints)) c.fact_at.ensures.value c.fact_at-in-Loop.ensures.value
    (omega (arith, ints, base_is)) (omega (arith, ints, count_is))
    (sym c.holds_constant.ensures ∙ c.if-not-holds_constant.false)
    (sym c.holds_constant-in-Loop.ensures ∙ c.if-not-holds_constant-2.false) in
    subst (λ (n : ℕ). SomeIff c.checked_mul.result (n < 340282366920938463463374607431768211456) n)
    (ap (λ (n : ℕ). n * c.from-in-Loop-3.result) c.from-in-Loop-2.ensures
    ∙ (ap (λ (n : ℕ). c.in-Loop.weight * n) (c.from-in-Loop-3.ensures ∙ c.saturating_sub.ensures)
    ∙ sym due)) c.checked_mul.ensures
