use Rattle.std.proofs.Common.{drop}
use Rattle.states.specs.State.{entry_fact}
use Rattle.states.specs.Frames.{frame_facts}
use Rattle.states.specs.Comparing.{WalksOn}
use Rattle.states.proofs.frame.Frame.pair_count.Given as goal

abbrev pub invariant-loop-i : goal.invariant-loop-i
invariant-loop-i l =
    WalksOn (entry_fact l.self.row.now) (frame_facts l.self) l.base l.rest (drop l.i l.base) (drop l.i l.rest)
