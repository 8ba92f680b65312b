use Rattle.std.proofs.Common.{List, ◌*◌, drop}
use Rattle.module_format.specs.Rows.{Entry}
use Rattle.states.specs.State.{entry_fact}
use Rattle.states.specs.Frames.{frame_facts}
use Rattle.states.specs.Comparing.{IsWalk}
use Rattle.states.proofs.frame.Frame.entering.Given as goal

abbrev pub invariant-loop-i : goal.invariant-loop-i
invariant-loop-i l =
    (row : List Entry) → IsWalk (entry_fact l.self.row.now) (frame_facts l.self) row l.base l.rest l.paid
    → IsWalk (entry_fact l.self.row.now) (frame_facts l.self) row (drop (l.i * 2) l.base) (drop l.i l.rest) l.sum
