use Rattle.std.proofs.Common.{arith, ◌-ℤ◌}
use Rattle.std.proofs.lemmas.Int.{ints}
use Rattle.states.proofs.Indices.{below-zero}
use Rattle.states.proofs.frame.Frame.index_of.Goals as goal

pub returns-then-word-lo : goal.returns-then-word-lo
returns-then-word-lo c =
    let lo_is = c.from-lo.ensures in
    let below = c.if-word-lo.true in
    below-zero (c.args.word -ℤ c.args.self.now.lo) (omega (arith, ints, lo_is, below))
