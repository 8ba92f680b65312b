use Rattle.scalar_ranges.specs.ChangeViews.{slots_from}
use Rattle.scalar_ranges.proofs.SlotLoops.{hand_begins, hand_turn, hand_done}
use Rattle.scalar_ranges.proofs.changes.hand_slots.Goals as goal

pub loop-place-init : goal.loop-place-init
loop-place-init c =
    hand_begins c.args.inner c.args.outer c.args.ended c.args.changes.now (slots_from c.args.slots.now)

pub loop-place-preserved : goal.loop-place-preserved
loop-place-preserved c =
    hand_turn c.args.inner c.args.outer c.args.ended c.args.changes.now c.loop-place.place
    c.index-changes-changes.result (slots_from c.loop-place.slots) (slots_from c.modify.new.slots)
    (slots_from c.args.slots.now) c.loop-place-test.true c.index-changes-changes.is c.modify.ensures
    c.loop-place.invariant

pub returns : goal.returns
returns c =
    hand_done c.args.inner c.args.outer c.args.ended c.args.changes.now c.loop-place.place
    (slots_from c.loop-place.slots) (slots_from c.args.slots.now) c.loop-place-test.false c.loop-place.invariant
