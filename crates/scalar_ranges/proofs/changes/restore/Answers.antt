use Rattle.std.proofs.Common.{ap, sym, ◌∙◌}
use Rattle.scalar_ranges.specs.Changes.{restored}
use Rattle.scalar_ranges.specs.ChangeViews.{slot_of}
use Rattle.scalar_ranges.proofs.SlotLoops.{slots_changed, slots_same}
use Rattle.scalar_ranges.proofs.changes.restore.Goals as goal

pub returns-then-number-slots : goal.returns-then-number-slots
returns-then-number-slots c =
    let back = restored (slot_of c.args.before) in
    slots_changed back c.args.slots.now c.args.number c.restore.new.self c.index-slots-number.result
    c.if-number-slots.true c.index-slots-number.is
    (c.restore.ensures ∙ ap (λ x. back (slot_of x)) (sym c.index-slots-number.is))

pub returns-else-number-slots : goal.returns-else-number-slots
returns-else-number-slots c =
    slots_same (restored (slot_of c.args.before)) c.args.slots.now c.args.number c.if-number-slots.false
