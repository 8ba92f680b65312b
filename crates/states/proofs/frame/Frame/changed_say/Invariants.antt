use Rattle.states.specs.State.{entry_fact}
use Rattle.states.specs.Frames.{frame_facts}
use Rattle.states.proofs.Remembering.{ChangedBlocksSay}
use Rattle.states.proofs.frame.Frame.changed_say.Given as goal

abbrev pub invariant-loop-number : goal.invariant-loop-number
invariant-loop-number l =
    ChangedBlocksSay l.self.lo l.self.remembered.times.items (frame_facts l.self)
    (entry_fact l.row.entries.items) l.compared.time
    l.number
