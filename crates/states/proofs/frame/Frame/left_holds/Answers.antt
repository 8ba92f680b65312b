use Rattle.std.proofs.Common.{arith}
use Rattle.states.specs.Frames.{frame_facts}
use Rattle.states.specs.State.{entry_fact}
use Rattle.states.proofs.Comparisons.{left-says}
use Rattle.states.proofs.frame.Frame.left_holds.Goals as goal

pub returns : goal.returns
returns c = λ _.
    left-says c.args.self.now.by_block.kept.items c.args.self.now.lo (frame_facts c.args.self.now)
    (entry_fact c.args.row.now)
    (λ n h. c.loop-number.invariant n (omega (arith, c.loop-number-test.false, c.len-number-end.ensures)))

pub block_holds-requires-clause-room : goal.block_holds-requires-clause-room
block_holds-requires-clause-room c =
    let few = c.args.self.now.by_block.few in
    let below = c.loop-number-test.true in
    let len = c.len-number-end.ensures in
    omega (arith, few, below, len)
