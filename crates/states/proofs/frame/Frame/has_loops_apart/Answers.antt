use Rattle.states.specs.State.{entry_fact}
use Rattle.states.proofs.LoopPairs.{over-apart}
use Rattle.states.proofs.frame.Frame.has_loops_apart.Goals as goal

pub returns : goal.returns
returns c = λ yes.
    let frame = c.args.self.now in
    over-apart frame.lo frame.row.now frame.overlay.written.items frame.by_block.kept.items
    (entry_fact c.args.row.now) (c.have_loops_apart.ensures yes)
