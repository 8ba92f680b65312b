use Rattle.std.proofs.Common.{◌≡◌, ◌+◌, ◌<◌, suc, refl, ap, sym, subst, ◌∙◌, arith, rules, length, take}
use Rattle.std.proofs.Common.{vec_capacity}
use Rattle.std.proofs.lemmas.List.{with_items_is, places}
use Rattle.std.specs.Vec.{with_items, with_item}
use Rattle.scalar_ranges.specs.Environments.{item_at}
use Rattle.scalar_ranges.specs.Changes.{Follows, ends_around, modify, with_ends, noted_slots, noted_in, HasRoomFor}
use Rattle.scalar_ranges.specs.ChangeViews.{meaning_of, slots_from, branching_of, tracked_from}
use Rattle.scalar_ranges.specs.Deferring.{of_form}
use Rattle.scalar_ranges.specs.Entries.{Meaning}
use Rattle.scalar_ranges.specs.TrackedViews.{known_by}
use Rattle.scalar_ranges.proofs.Turning.{known_is}
use Rattle.scalar_ranges.proofs.Around.{outside_blocks, has_room, put_follows_around, stays_around}
use Rattle.scalar_ranges.proofs.Around.{changing_ends, as_ends, followed_as}
use Rattle.scalar_ranges.proofs.changes.Tracked.put_end_around.Goals as goal
use Rattle.scalar_ranges.proofs.changes.Tracked.put_end_around.Goals.{Start, After-place_around-place, After-modify}

-- there are as many blocks
enough : (c : Start) → suc c.args.further < length c.args.self.now.blocks.items
enough c = outside_blocks c.args.number (suc c.args.further) c.args.self.now.blocks.items c.requires

less : (c : After-place_around-place) → c.place_around-place.result < length c.args.self.now.blocks.items
less c = let all = c.place_around-place.ensures in omega arith

size : (c : After-place_around-place)
    → length c.args.self.now.blocks.items ≡ c.place_around-place.result + 1 + suc c.args.further
size c = let all = c.place_around-place.ensures in omega arith

put : (c : After-modify)
    → c.place_around-place.result < length c.args.self.now.blocks.items
    → length c.args.self.now.blocks.items ≡ c.place_around-place.result + 1 + suc c.args.further
    → Follows (tracked_from (with_items (with_items c.args.self.now.slots c.note_in.new.slots)
    c.modify.new.slots).items (with_item c.args.self.now.blocks c.place_around-place.result
    c.note_in.new.block).items)
    (record {
      entries = (known_by c.args.self.now).entries;
      blocks = ends_around (suc c.args.further) (λ m. of_form c.args.form m (meaning_of c.args.left)) c.args.number
          (known_by c.args.self.now).blocks;
    })
put c inside long =
    let old = c.args.self.now in
    let n = c.args.number in
    let g : Meaning → Meaning = λ m. of_form c.args.form m (meaning_of c.args.left) in
    let place = c.place_around-place.result in
    let o = c.index_mut.result.now in
    let lent = c.deref_mut.ensures.value in
    followed_as (as_ends (suc c.args.further) n g (known_by old)) (put_follows_around n (suc c.args.further) place
    old.slots.items old.blocks.items o inside c.index_mut.ensures.value long old.tracked c.requires
    (changing_ends n g) (slots_from c.note_in.new.slots)
    (slots_from c.modify.new.slots) _ _ c.note_in.new.block
    (c.note_in.ensures.slots
    ∙ ap (λ ks. noted_slots (place + 1) n (item_at n (take o.count (slots_from ks))) (slots_from ks)) lent)
    (c.note_in.ensures.block
    ∙ ap (λ ks. noted_in (place + 1) n (item_at n (take o.count (slots_from ks))) (branching_of o)) lent)
    (c.modify.ensures ∙ ap (λ ks. modify (with_ends g) n (slots_from ks)) (search (rules, places)))
    (ap slots_from (with_items_is (with_items old.slots c.note_in.new.slots) c.modify.new.slots
    (search (rules, places)))) refl)

pub place_around-place-requires : goal.place_around-place-requires
place_around-place-requires c = enough (goal.at.place_around-place-requires c).Start

pub note_in-requires : goal.note_in-requires
note_in-requires c =
    let at = (goal.at.note_in-requires c).After-place_around-place in
    let old = c.args.self.now in
    let n = c.args.number in
    let place = c.place_around-place.result in
    let o = c.index_mut.result.now in
    subst (λ ks. HasRoomFor (place + 1) (item_at n (take o.count (slots_from ks))) (vec_capacity o.changes)
    (vec_capacity o.recent) (branching_of o)) (sym c.deref_mut.ensures.value)
    (has_room n (suc c.args.further) place old.slots.items old.blocks.items o (less at)
    c.index_mut.ensures.value (size at) old.tracked c.requires)

pub invariant_of-self : goal.invariant_of-self
invariant_of-self c =
    let at = (goal.at.invariant_of-self c).After-place_around-place in
    record { tracked = (put (goal.at.invariant_of-self c).After-modify (less at) (size at)).tracked }

pub returns-clause-known : goal.returns-clause-known
returns-clause-known c =
    let at = (goal.at.returns-clause-known c).After-place_around-place in
    known_is (put (goal.at.returns-clause-known c).After-modify (less at) (size at))

pub returns-clause-apart : goal.returns-clause-apart
returns-clause-apart c =
    let at = (goal.at.returns-clause-apart c).After-place_around-place in
    let old = c.args.self.now in
    stays_around c.args.number (suc c.args.further) c.place_around-place.result
    old.slots.items old.blocks.items c.index_mut.result.now (less at) c.index_mut.ensures.value (size at) old.tracked
    c.requires c.note_in.new.block _ refl
