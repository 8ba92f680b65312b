use Rattle.std.proofs.Common.{length}
use Rattle.states.specs.Comparing.{IsPast}
use Rattle.states.proofs.row.past_saying.Given as goal

abbrev pub invariant-loop-entry : goal.invariant-loop-entry
invariant-loop-entry l = IsPast l.row l.word l.end l.wanted l.rest l.next

abbrev pub decreases-loop-entry : goal.decreases-loop-entry
decreases-loop-entry l = length l.rest
