use Rattle.std.proofs.lemmas.List.{drop_more}
use Rattle.std.proofs.Common.{get_or}
use Rattle.scalar_ranges.specs.Changes.{each}
use Rattle.scalar_ranges.specs.ChangeViews.{updated, slots_from}
use Rattle.scalar_ranges.proofs.SlotLoops.{each_turn, each_done}
use Rattle.scalar_ranges.proofs.changes.each_numbered.Goals as goal

pub loop-number-preserved : goal.loop-number-preserved
loop-number-preserved c =
    let numbers = c.args.numbers.now in
    let i = c.loop-number.number-index in
    each_turn (updated c.args.update) numbers i (get_or numbers i 0) (slots_from c.loop-number.slots)
    (slots_from c.modify.new.slots) (each (updated c.args.update) numbers (slots_from c.args.slots.now))
    (drop_more numbers i 0 c.loop-number-test.true) c.modify.ensures c.loop-number.invariant

pub returns : goal.returns
returns c =
    each_done (updated c.args.update) c.args.numbers.now c.loop-number.number-index (slots_from c.loop-number.slots)
    (each (updated c.args.update) c.args.numbers.now (slots_from c.args.slots.now)) c.loop-number-test.false
    c.loop-number.invariant
