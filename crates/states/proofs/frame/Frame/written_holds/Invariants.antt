use Rattle.states.specs.State.{entry_fact}
use Rattle.states.specs.Frames.{frame_facts}
use Rattle.states.proofs.Comparisons.{ItemsSay}
use Rattle.states.proofs.frame.Frame.written_holds.Given as goal

abbrev pub invariant-loop-written : goal.invariant-loop-written
invariant-loop-written l =
    ItemsSay l.written-items l.written-index l.self.lo (frame_facts l.self) (entry_fact l.row)
