use Rattle.std.proofs.Common.{◌+◌, arith}
use Rattle.std.proofs.lemmas.Int.{ints}
use Rattle.states.proofs.Hulls.{dropped}
use Rattle.states.proofs.implied.begins_by.Goals as goal

pub returns-then-step-row-clause-same : goal.returns-then-step-row-clause-same
returns-then-step-row-clause-same c = λ yes.
    let near = c.if-step-row.true in
    let place = c.requires.place in
    dropped c.args.row.now (c.args.place + c.args.step) _ c.start_of.result c.args.word c.requires.apart
    (omega (arith, near, place)) c.start_of.ensures.value (omega (arith, ints, yes))
