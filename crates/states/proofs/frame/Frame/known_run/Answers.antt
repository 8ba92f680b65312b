use Rattle.std.proofs.Common.{rules, arith, SFits}
use Rattle.std.proofs.lemmas.Int.{ints, clamps, to_z-of_z}
use Rattle.std.specs.Int.{w64}
use Rattle.states.proofs.frame.Frame.known_run.Goals as goal

pub run_in-requires-clause-some : goal.run_in-requires-clause-some
run_in-requires-clause-some c =
    let some = c.requires in
    let high = c.in_ok-place.ensures.high in
    let value = c.min.ensures.value in
    let fits : SFits w64 c.min.result = search rules in
    rw (to_z-of_z w64 c.args.word c.ranges.word, to_z-of_z w64 c.min.result fits)
    (omega (arith, ints, clamps, some, high, value))

pub run_in-requires-clause-high : goal.run_in-requires-clause-high
run_in-requires-clause-high c =
    let end = c.in_ok-place.ensures.end in
    let bound = c.min.ensures.other_bound in
    let fits : SFits w64 c.min.result = search rules in
    rw (to_z-of_z w64 c.min.result fits) (omega (arith, ints, end, bound))

pub returns : goal.returns
returns c =
    let fits : SFits w64 c.min.result = search rules in
    let bound = c.min.ensures.self_bound in
    let holds = rw (to_z-of_z w64 c.args.word c.ranges.word, to_z-of_z w64 c.min.result fits) at c.in_ok-run.ensures in
    let within = holds.within in
    record { ahead = holds.ahead; within = omega (arith, ints, within, bound); same = holds.same }
