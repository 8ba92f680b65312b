use Rattle.scalar_ranges.proofs.LeftLists.{below_step, below_stop}
use Rattle.scalar_ranges.proofs.deferred.are_below.Goals as goal

pub loop-change-preserved : goal.loop-change-preserved
loop-change-preserved c =
    below_step c.args.count c.args.changes.now c.loop-change.change-index c.change-item.result
    c.loop-change-test.true c.change-item.is c.if-change-count.false c.loop-change.invariant

pub returns : goal.returns
returns c all =
    below_stop c.args.count c.args.changes.now c.loop-change.change-index c.loop-change-test.false
    c.loop-change.invariant
