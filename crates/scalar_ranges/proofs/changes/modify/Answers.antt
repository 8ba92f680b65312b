use Rattle.std.proofs.Common.{ap, sym, ◌∙◌}
use Rattle.scalar_ranges.specs.ChangeViews.{updated, slot_of}
use Rattle.scalar_ranges.proofs.SlotLoops.{slots_changed, slots_same}
use Rattle.scalar_ranges.proofs.changes.modify.Goals as goal

pub returns-then-number-slots : goal.returns-then-number-slots
returns-then-number-slots c =
    slots_changed (updated c.args.update) c.args.slots.now c.args.number c.update.new.self c.index-slots-number.result
    c.if-number-slots.true c.index-slots-number.is
    (c.update.ensures ∙ ap (λ x. updated c.args.update (slot_of x)) (sym c.index-slots-number.is))

pub returns-else-number-slots : goal.returns-else-number-slots
returns-else-number-slots c =
    slots_same (updated c.args.update) c.args.slots.now c.args.number c.if-number-slots.false
