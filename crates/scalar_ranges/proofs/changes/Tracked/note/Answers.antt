use Rattle.std.proofs.Common.{◌≡◌, ◌+◌, ◌-◌, ◌<◌, ap, sym, subst, ◌∙◌, arith, rules, length, take, vec_capacity}
use Rattle.std.proofs.lemmas.List.{with_items_is, places}
use Rattle.std.specs.Vec.{with_items, with_item}
use Rattle.scalar_ranges.specs.Environments.{item_at}
use Rattle.scalar_ranges.specs.Changes.{noted, noted_slots, noted_in, HasRoomFor}
use Rattle.scalar_ranges.specs.ChangeViews.{slots_from, branching_of, tracked_from}
use Rattle.scalar_ranges.specs.TrackedViews.{tracked_of}
use Rattle.scalar_ranges.proofs.Around.{room_here, noted_inside}
use Rattle.scalar_ranges.proofs.Touching.{notes_well}
use Rattle.scalar_ranges.proofs.Turning.{kept}
use Rattle.scalar_ranges.proofs.changes.Tracked.note.Goals as goal
use Rattle.scalar_ranges.proofs.changes.Tracked.note.Goals.{After-note_in}

-- what comes of the lists
listed : (c : After-note_in) → c.len-depth.result - 1 < length c.args.self.now.blocks.items
    → length c.args.self.now.blocks.items ≡ c.len-depth.result - 1 + 1 + 0
    → tracked_from (with_items c.args.self.now.slots c.note_in.new.slots).items
    (with_item c.args.self.now.blocks (c.len-depth.result - 1) c.note_in.new.block).items
    ≡ noted c.args.number (tracked_of c.args.self.now).slots (tracked_of c.args.self.now).blocks
listed c less size =
    let old = c.args.self.now in
    let n = c.args.number in
    let place = c.len-depth.result - 1 in
    let o = c.index_mut.result.now in
    let lent = c.deref_mut.ensures.value in
    noted_inside n place old.slots.items old.blocks.items o less c.index_mut.ensures.value size old.tracked
    (with_items old.slots c.note_in.new.slots).items _ c.note_in.new.block
    (ap slots_from (with_items_is old.slots c.note_in.new.slots (search (rules, places)))
    ∙ c.note_in.ensures.slots
    ∙ ap (λ ks. noted_slots (place + 1) n (item_at n (take o.count (slots_from ks))) (slots_from ks)) lent)
    (c.note_in.ensures.block
    ∙ ap (λ ks. noted_in (place + 1) n (item_at n (take o.count (slots_from ks))) (branching_of o)) lent)
    (λ i. (with_item old.blocks place c.note_in.new.block).items)

pub note_in-requires : goal.note_in-requires
note_in-requires c =
    let old = c.args.self.now in
    let n = c.args.number in
    let place = c.len-depth.result - 1 in
    let o = c.index_mut.result.now in
    subst (λ ks. HasRoomFor (place + 1) (item_at n (take o.count (slots_from ks))) (vec_capacity o.changes)
    (vec_capacity o.recent) (branching_of o)) (sym c.deref_mut.ensures.value)
    (room_here n place old.slots.items old.blocks.items o (omega arith) c.index_mut.ensures.value (omega arith)
    old.tracked)

pub invariant_of-self : goal.invariant_of-self
invariant_of-self c =
    let old = c.args.self.now in
    record {
      tracked = kept (listed (goal.at.invariant_of-self c).After-note_in (omega arith) (omega arith))
          (notes_well c.args.number (tracked_of old).slots (tracked_of old).blocks old.tracked).tracked;
    }

pub returns-then-depth-gt0 : goal.returns-then-depth-gt0
returns-then-depth-gt0 c = listed (goal.at.returns-then-depth-gt0 c).After-note_in (omega arith) (omega arith)
