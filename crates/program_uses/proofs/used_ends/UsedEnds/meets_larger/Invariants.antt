use Rattle.std.proofs.Common.{length}
use Rattle.program_uses.proofs.EndsJoined.{EndsLeft}
use Rattle.program_uses.proofs.used_ends.UsedEnds.meets_larger.Given as goal

abbrev pub decreases-loop-end : goal.decreases-loop-end
decreases-loop-end l = length l.rest

abbrev pub invariant-loop-end : goal.invariant-loop-end
invariant-loop-end l = EndsLeft l.count l.self l.other l.rest
