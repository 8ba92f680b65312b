use Rattle.std.proofs.Common.{rules, arith, ◌≡◌, pos, true, Some, None, sym, ◌∙◌}
use Rattle.states.specs.Below.{is_exactly}
use Rattle.states.specs.Comparing.{loop_of}
use Rattle.states.proofs.KnownRuns.{plain-paid, loop-paid}
use Rattle.states.proofs.frame_runs.paid_by.Goals as goal

pub returns-in_default : goal.returns-in_default
returns-in_default c = λ facts same.
    let none : loop_of c.args.entry.now.fact ≡ None = search rules in
    plain-paid facts c.args.entry.now c.args.fact none (sym c.implies.ensures ∙ c.if-not-implies.false) same

pub returns : goal.returns
returns c = λ facts same.
    let wanted = c.in-Some.wanted in
    let loop : loop_of c.args.entry.now.fact ≡ Some wanted = search rules in
    let base : is_exactly c.args.fact wanted.base ≡ true = search rules in
    let count : is_exactly c.args.fact (pos wanted.count) ≡ true = search rules in
    loop-paid facts c.args.entry.now c.args.fact wanted c.in_ok-paid.paid loop (omega (arith, c.if-entry-ne2.false))
    base count same c.in_ok-paid.ensures
