use Rattle.std.proofs.Common.{arith}
use Rattle.std.proofs.lemmas.Int.{ints, to_z-of_z}
use Rattle.std.specs.Int.{w64}
use Rattle.states.proofs.frame.Frame.runs_say.Goals as goal

pub returns : goal.returns
returns c = λ yes k low high.
    let ended = c.loop-word-test.false in
    c.loop-word.invariant k (rw (to_z-of_z w64 c.args.first c.ranges.first) low) (omega (arith, ints, high, ended))
