use Rattle.std.proofs.Common.{Some, ap, sym, ◌∙◌, arith, option_map}
use Rattle.std.proofs.lemmas.List.{length-map}
use Rattle.scalar_ranges.specs.Changes.{meaning_after}
use Rattle.scalar_ranges.specs.ChangeViews.{slot_of, slots_from}
use Rattle.scalar_ranges.proofs.Numbered.{item_mapped}
use Rattle.scalar_ranges.proofs.SlotLoops.{slot_at, item_beyond}
use Rattle.scalar_ranges.proofs.changes.meaning_after.Goals as goal

pub returns-then-number-slots : goal.returns-then-number-slots
returns-then-number-slots c =
    let f = meaning_after c.args.depth c.args.ended in
    sym (item_mapped f c.args.number (slots_from c.args.slots.now)
    ∙ ap (option_map f) (slot_at c.args.slots.now c.args.number c.index-slots-number.result c.if-number-slots.true
    c.index-slots-number.is) ∙ ap Some (sym c.meaning_after.ensures))

pub returns-else-number-slots : goal.returns-else-number-slots
returns-else-number-slots c =
    let f = meaning_after c.args.depth c.args.ended in
    let long = length-map c.args.slots.now slot_of in
    sym (item_mapped f c.args.number (slots_from c.args.slots.now)
    ∙ ap (option_map f) (item_beyond c.args.number (slots_from c.args.slots.now)
    (omega (arith, c.if-number-slots.false, long))))
