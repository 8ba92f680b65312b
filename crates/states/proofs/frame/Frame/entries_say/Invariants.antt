use Rattle.std.proofs.Common.{length}
use Rattle.states.specs.Frames.{frame_facts}
use Rattle.states.specs.Rows.{AreApart}
use Rattle.states.proofs.SaidWords.{SaidSoFar}
use Rattle.states.proofs.frame.Frame.entries_say.Given as goal

abbrev pub invariant-loop-entry : goal.invariant-loop-entry
invariant-loop-entry l = record {
  apart : AreApart l.rest;
  so_far : SaidSoFar (frame_facts l.self) l.row l.rest l.first l.end;
}

abbrev pub decreases-loop-entry : goal.decreases-loop-entry
decreases-loop-entry l = length l.rest
