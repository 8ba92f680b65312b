use Rattle.std.proofs.Common.{arith, ap, ◌∙◌}
use Rattle.std.proofs.lemmas.Int.{ints}
use Rattle.states.specs.Below.{are_alike}
use Rattle.states.proofs.Prices.{alike, whole-loop}
use Rattle.par_rules.specs.Sights.{facts_in}
use Rattle.par_rules.proofs.sights.Sight.is_whole.Goals as goal

pub returns-in-Loop : goal.returns-in-Loop
returns-in-Loop c =
    alike c.is_alone.result c.is_alone-in-Loop.result
    ∙ (ap (λ b. are_alike b c.is_alone-in-Loop.result) c.is_alone.ensures
    ∙ (ap (are_alike _) c.is_alone-in-Loop.ensures
    ∙ whole-loop
    (facts_in c.args.self.now) c.args.entry.now c.in-Loop.base c.in-Loop.count c.in-Loop.weight _ _
    c.fact_at.result c.fact_at-in-Loop.result c.in-Loop.is (omega (arith, ints))
    (omega (arith, ints)) c.fact_at.ensures.value c.fact_at-in-Loop.ensures.value))
