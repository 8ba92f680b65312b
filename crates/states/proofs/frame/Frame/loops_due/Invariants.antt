use Rattle.std.proofs.Common.{take}
use Rattle.states.specs.Remembered.{AreDueSince}
use Rattle.states.specs.Remembering.{was_alone}
use Rattle.states.specs.State.{entry_fact}
use Rattle.states.proofs.frame.Frame.loops_due.Given as goal

abbrev pub invariant-loop-entry : goal.invariant-loop-entry
invariant-loop-entry l =
    AreDueSince (was_alone (entry_fact l.self.row.now) l.self.lo l.self.remembered l.time)
    (was_alone (entry_fact l.self.row.now) l.self.lo l.self.remembered l.self.remembered.time)
    (take l.entry-index l.row) l.due
