use Rattle.scalar_ranges.proofs.SlotLoops.{foreign_turn, foreign_done}
use Rattle.scalar_ranges.proofs.changes.are_foreign.Goals as goal

pub loop-change-preserved : goal.loop-change-preserved
loop-change-preserved c =
    foreign_turn c.args.count c.args.depth c.args.changes.now c.loop-change.change-index c.change-item.result
    c.loop-change-test.true c.change-item.is c.if-change-count.false c.if-change-depth.false c.loop-change.invariant

pub returns : goal.returns
returns c all =
    foreign_done c.args.count c.args.depth c.args.changes.now c.loop-change.change-index c.loop-change-test.false
    c.loop-change.invariant
