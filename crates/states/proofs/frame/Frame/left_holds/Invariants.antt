use Rattle.states.specs.State.{entry_fact}
use Rattle.states.specs.Frames.{frame_facts}
use Rattle.states.proofs.Comparisons.{BlocksSay}
use Rattle.states.proofs.frame.Frame.left_holds.Given as goal

abbrev pub invariant-loop-number : goal.invariant-loop-number
invariant-loop-number l =
    BlocksSay l.self.by_block.kept.items l.self.lo (frame_facts l.self) (entry_fact l.row) l.number
