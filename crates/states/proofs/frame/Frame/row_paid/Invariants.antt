use Rattle.std.proofs.Common.{length}
use Rattle.states.specs.State.{entry_fact}
use Rattle.states.specs.Frames.{frame_facts}
use Rattle.states.specs.Rows.{AreApart}
use Rattle.states.specs.Comparing.{IsWalk}
use Rattle.states.proofs.frame.Frame.row_paid.Given as goal

abbrev pub invariant-loop-base : goal.invariant-loop-base
invariant-loop-base l = record {
  apart : AreApart l.base;
  walk : IsWalk (entry_fact l.self.row.now) (frame_facts l.self) l.row l.base l.rest l.paid;
}

abbrev pub decreases-loop-base : goal.decreases-loop-base
decreases-loop-base l = length l.rest
