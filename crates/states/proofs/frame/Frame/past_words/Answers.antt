use Rattle.std.proofs.Common.{rules, SFits, sym, ap, ◌∙◌}
use Rattle.std.proofs.lemmas.Int.{to_z-of_z}
use Rattle.std.specs.Int.{w64}
use Rattle.states.specs.declared.known.WordFact.{WordFact}
use Rattle.states.specs.Below.{implies}
use Rattle.states.specs.State.{by_itself}
use Rattle.states.proofs.frame.Frame.past_words.Goals as goal

pub returns-clause-each : goal.returns-clause-each
returns-clause-each c =
    let alike = c.alike_from-alike.result in
    let fits : SFits w64 alike.end = search rules in
    let known = rw (to_z-of_z w64 c.args.word c.ranges.word, to_z-of_z w64 c.args.end c.ranges.end)
    at c.alike_from-alike.ensures.alike in
    rw (to_z-of_z w64 alike.end fits)
    (λ k low high. ap (λ (f : WordFact). implies (by_itself f) c.args.wanted) (known.same k low high)
    ∙ (sym c.says.ensures ∙ c.if-not-says.false))
