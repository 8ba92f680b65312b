use Rattle.std.proofs.Common.{arith, ap, ◌∙◌}
use Rattle.std.proofs.lemmas.Int.{ints}
use Rattle.states.specs.Below.{are_alike}
use Rattle.states.specs.Views.{state_of}
use Rattle.states.proofs.Prices.{alike, whole-loop}
use Rattle.explanation_parts.specs.Ways.{seen_in}
use Rattle.explanation_parts.proofs.lacks.is_whole.Goals as goal

pub returns-in-Loop : goal.returns-in-Loop
returns-in-Loop c =
    alike c.is_alone.result c.is_alone-in-Loop.result
    ∙ (ap (λ b. are_alike b c.is_alone-in-Loop.result) c.is_alone.ensures
    ∙ (ap (are_alike _) c.is_alone-in-Loop.ensures
    ∙ whole-loop
    (seen_in c.args.way (state_of c.args.state.now)) c.args.entry.now c.in-Loop.base c.in-Loop.count c.in-Loop.weight
    _ _ c.seen_fact.result c.seen_fact-in-Loop.result c.in-Loop.is (omega (arith, ints)) (omega (arith, ints))
    c.seen_fact.ensures.value c.seen_fact-in-Loop.ensures.value))
