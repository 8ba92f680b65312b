use Rattle.std.proofs.Common.{length}
use Rattle.states.specs.Rows.{AreApart}
use Rattle.states.proofs.LoopPairs.{AloneSoFar}
use Rattle.states.proofs.row.begins_no_loop.Given as goal

abbrev pub invariant-loop-entry : goal.invariant-loop-entry
invariant-loop-entry l = record {
  apart : AreApart l.rest;
  alone : AloneSoFar l.row l.rest;
}

abbrev pub decreases-loop-entry : goal.decreases-loop-entry
decreases-loop-entry l = length l.rest
