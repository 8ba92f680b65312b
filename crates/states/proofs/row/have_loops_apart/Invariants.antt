use Rattle.std.proofs.Common.{length}
use Rattle.states.specs.Rows.{AreApart}
use Rattle.states.specs.Cutting.{AreApartSoFar}
use Rattle.states.proofs.row.have_loops_apart.Given as goal

abbrev pub invariant-loop-entry : goal.invariant-loop-entry
invariant-loop-entry l = record {
  apart : AreApart l.left;
  so_far : AreApartSoFar l.row l.other l.rest l.left;
}

abbrev pub decreases-loop-entry : goal.decreases-loop-entry
decreases-loop-entry l = length l.rest
