use Rattle.scalar_ranges.specs.LeftViews.{left_by}
use Rattle.scalar_ranges.proofs.Standing.{none_step, none_stop, nothing_of}
use Rattle.scalar_ranges.proofs.deferred.Deferred.are_released.Goals as goal

pub loop-change-preserved : goal.loop-change-preserved
loop-change-preserved c =
    none_step (left_by c.args.self.now) c.args.changes.now c.loop-change.change-index c.change-item.result
    c.loop-change-test.true c.change-item.is
    (nothing_of c.is_some.result c.left.result (left_by c.args.self.now c.change-item.result.number)
    c.if-is_some.false c.is_some.ensures c.left.ensures) c.loop-change.invariant

pub returns : goal.returns
returns c all =
    none_stop (left_by c.args.self.now) c.args.changes.now c.loop-change.change-index c.loop-change-test.false
    c.loop-change.invariant
