use Rattle.std.proofs.lemmas.Int.{to_z-of_z}
use Rattle.std.specs.Int.{w64}
use Rattle.par_rules.proofs.openings.past_channels.Goals as goal

pub returns-then-other-word-clause-same : goal.returns-then-other-word-clause-same
returns-then-other-word-clause-same c =
    rw (to_z-of_z w64 c.args.word c.ranges.word, to_z-of_z w64 c.args.end c.ranges.end) at c.loop-channel.invariant.same

pub returns-in_default-clause-same : goal.returns-in_default-clause-same
returns-in_default-clause-same c =
    rw (to_z-of_z w64 c.args.word c.ranges.word, to_z-of_z w64 c.args.end c.ranges.end) at c.loop-channel.invariant.same
