use Rattle.std.proofs.Common.{arith, ap}
use Rattle.states.specs.declared.remembered.Compared.{Compared}
use Rattle.states.proofs.remembered.Remembered.new.Goals as goal

pub invariant_of-result-clause-past : goal.invariant_of-result-clause-past
invariant_of-result-clause-past c = λ at.
    let time = ap (λ (x : Compared). x.time) (c.in_ok-compared.ensures at) in
    omega (arith, time)

pub invariant_of-result-clause-each : goal.invariant_of-result-clause-each
invariant_of-result-clause-each c = λ n l.
    let len = c.in_ok-times.ensures.len in
    c.in_ok-times.ensures.some n (omega (arith, len, l))

pub invariant_of-result-clause-each_written : goal.invariant_of-result-clause-each_written
invariant_of-result-clause-each_written c = λ n l.
    let len = c.in_ok-times.ensures.len in
    c.in_ok-by_block.ensures.written n (omega (arith, len, l))
