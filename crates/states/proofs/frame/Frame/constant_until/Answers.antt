use Rattle.std.proofs.Common.{rules, arith, SFits, sym, ap, ◌∙◌}
use Rattle.std.proofs.lemmas.Int.{ints, to_z-of_z}
use Rattle.std.specs.Int.{w64}
use Rattle.states.specs.declared.known.WordFact.{WordFact}
use Rattle.states.specs.Below.{holds_constant}
use Rattle.states.proofs.frame.Frame.constant_until.Goals as goal

pub returns-then-not-holds_constant-clause-none : goal.returns-then-not-holds_constant-clause-none
returns-then-not-holds_constant-clause-none c = λ _.
    let number = c.args.number in
    let known = rw (to_z-of_z w64 c.args.word c.ranges.word, to_z-of_z w64 c.args.end c.ranges.end)
    at c.alike_from-alike.ensures.alike in
    let holds = rw (to_z-of_z w64 number c.ranges.number) at c.holds_constant.ensures in
    let ahead = known.ahead in
    ap (λ (f : WordFact). holds_constant f number) (known.same c.args.word (omega (arith, ints)) ahead)
    ∙ (sym holds ∙ c.if-not-holds_constant.true)

pub returns-clause-each : goal.returns-clause-each
returns-clause-each c =
    let number = c.args.number in
    let alike = c.alike_from-alike.result in
    let fits : SFits w64 alike.end = search rules in
    let known = rw (to_z-of_z w64 c.args.word c.ranges.word, to_z-of_z w64 c.args.end c.ranges.end)
    at c.alike_from-alike.ensures.alike in
    let holds = rw (to_z-of_z w64 number c.ranges.number) at c.holds_constant.ensures in
    rw (to_z-of_z w64 alike.end fits)
    (λ k low high. ap (λ (f : WordFact). holds_constant f number) (known.same k low high)
    ∙ (sym holds ∙ c.if-not-holds_constant.false))
