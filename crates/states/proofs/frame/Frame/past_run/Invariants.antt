use Rattle.std.proofs.Common.{List, length}
use Rattle.module_format.specs.Rows.{Entry}
use Rattle.states.specs.Frames.{frame_facts}
use Rattle.states.specs.Runs.{IsPassed}
use Rattle.states.proofs.frame.Frame.past_run.Given as goal

abbrev pub invariant-loop-entry : goal.invariant-loop-entry
invariant-loop-entry l = (row : List Entry) → IsPassed (frame_facts l.self) row l.from l.paid
    → IsPassed (frame_facts l.self) row l.rest l.sum

abbrev pub decreases-loop-entry : goal.decreases-loop-entry
decreases-loop-entry l = length l.rest
