use Rattle.scalar_ranges.specs.Changes.{numbers_of, each}
use Rattle.scalar_ranges.specs.ChangeViews.{updated, slots_from, changes_from}
use Rattle.scalar_ranges.proofs.SlotLoops.{number_at, each_turn, listed_done}
use Rattle.scalar_ranges.proofs.changes.each_listed.Goals as goal

pub loop-change-preserved : goal.loop-change-preserved
loop-change-preserved c =
    let f = updated c.args.update in
    let numbers = numbers_of (changes_from c.args.changes.now) in
    let i = c.loop-change.change-index in
    each_turn f numbers i c.change-item.result.number (slots_from c.loop-change.slots)
    (slots_from c.modify.new.slots) (each f numbers (slots_from c.args.slots.now))
    (number_at c.args.changes.now i c.change-item.result c.loop-change-test.true c.change-item.is) c.modify.ensures
    c.loop-change.invariant

pub returns : goal.returns
returns c =
    let f = updated c.args.update in
    listed_done f c.args.changes.now c.loop-change.change-index (slots_from c.loop-change.slots)
    (each f (numbers_of (changes_from c.args.changes.now)) (slots_from c.args.slots.now)) c.loop-change-test.false
    c.loop-change.invariant
