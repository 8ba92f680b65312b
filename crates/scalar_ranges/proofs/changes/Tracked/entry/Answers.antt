use Rattle.std.proofs.Common.{ap, sym, arith, length, ◌≤◌, ◌<◌, ◌∙◌, option_map}
use Rattle.std.proofs.lemmas.List.{length-map}
use Rattle.scalar_ranges.specs.Changes.{entry_in}
use Rattle.scalar_ranges.specs.ChangeViews.{slot_of, slots_from}
use Rattle.scalar_ranges.proofs.SlotLoops.{slot_at, item_beyond, entry_seen}
use Rattle.scalar_ranges.proofs.changes.Tracked.entry.Goals as goal

pub returns-then-number-len : goal.returns-then-number-len
returns-then-number-len c =
    let slots = c.args.self.now.slots.items in
    let within : c.args.number < length slots = omega arith in
    sym (entry_seen c.args.number (slots_from slots)
    ∙ ap (option_map entry_in) (slot_at slots c.args.number c.index-slot.result.now within c.index-slot.ensures))

pub returns-else-number-len : goal.returns-else-number-len
returns-else-number-len c =
    let slots = c.args.self.now.slots.items in
    let long = length-map slots slot_of in
    let beyond : length (slots_from slots) ≤ c.args.number = omega arith in
    sym (entry_seen c.args.number (slots_from slots)
    ∙ ap (option_map entry_in) (item_beyond c.args.number (slots_from slots) beyond))
