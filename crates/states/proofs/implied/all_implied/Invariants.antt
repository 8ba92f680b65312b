use Rattle.std.proofs.Common.{length}
use Rattle.states.specs.Rows.{AreApart}
use Rattle.states.proofs.Hulls.{ImpliedSoFar}
use Rattle.states.proofs.implied.all_implied.Given as goal

abbrev pub invariant-loop-entry : goal.invariant-loop-entry
invariant-loop-entry l = record {
  apart : AreApart l.rest;
  so_far : ImpliedSoFar l.row l.rest l.first l.end l.fact;
}

abbrev pub decreases-loop-entry : goal.decreases-loop-entry
decreases-loop-entry l = length l.rest
