use Rattle.std.proofs.Common.{arith}
use Rattle.states.specs.Frames.{frame_facts}
use Rattle.states.specs.State.{entry_fact}
use Rattle.states.proofs.Remembering.{changed-says}
use Rattle.states.proofs.frame.Frame.changed_say.Goals as goal

pub returns : goal.returns
returns c = λ _.
    let frame = c.args.self.now in
    changed-says frame.lo frame.remembered.times.items (frame_facts frame) (entry_fact c.args.row.now.entries.items)
    c.args.compared.time
    (λ n h. c.loop-number.invariant n (omega (arith, c.loop-number-test.false, c.len-number-end.ensures)))
