use Rattle.scalar_ranges.specs.ChangeViews.{slots_from}
use Rattle.scalar_ranges.proofs.SlotLoops.{undo_begins, undo_turn, undo_done}
use Rattle.scalar_ranges.proofs.changes.undo.Goals as goal

pub loop-place-init : goal.loop-place-init
loop-place-init c = undo_begins c.args.changes.now (slots_from c.args.slots.now)

pub loop-place-preserved : goal.loop-place-preserved
loop-place-preserved c =
    undo_turn c.args.changes.now c.loop-place.place c.index-changes-changes.result (slots_from c.loop-place.slots)
    (slots_from c.restore.new.slots) (slots_from c.args.slots.now) c.loop-place-test.true c.index-changes-changes.is
    c.restore.ensures c.loop-place.invariant

pub returns : goal.returns
returns c =
    undo_done c.args.changes.now c.loop-place.place (slots_from c.loop-place.slots) (slots_from c.args.slots.now)
    c.loop-place-test.false c.loop-place.invariant
