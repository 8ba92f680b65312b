use Rattle.std.proofs.Common.{arith, rules}
use Rattle.std.proofs.lemmas.List.{with_items_is, places}
use Rattle.std.specs.Vec.{with_items}
use Rattle.scalar_ranges.specs.Moves.{next}
use Rattle.scalar_ranges.specs.Changes.{Follows}
use Rattle.scalar_ranges.specs.ChangeViews.{tracked_from}
use Rattle.scalar_ranges.specs.TrackedViews.{tracked_of, known_by}
use Rattle.scalar_ranges.proofs.Following.{next_follows}
use Rattle.scalar_ranges.proofs.Noting.{innermost}
use Rattle.scalar_ranges.proofs.Staying.{stays_turned}
use Rattle.scalar_ranges.proofs.Turning.{followed, known_is, next_is}
use Rattle.scalar_ranges.proofs.changes.Tracked.next.Goals as goal
use Rattle.scalar_ranges.proofs.changes.Tracked.next.Goals.{After-push_reserved}

turned : (c : After-push_reserved)
    → Follows (tracked_from (with_items c.truncate.new.self c.turn_slots.new.slots).items
    c.push_reserved.new.self.items) (next (known_by c.args.self.now))
turned c =
    let all = with_items_is c.truncate.new.self c.turn_slots.new.slots (search (rules, places)) in
    let old = c.args.self.now in
    let block = c.in-Some.block in
    let inner = innermost old.blocks.items c.pop.new.self.items block c.len-depth.result c.in-Some.ensures.items
    (omega arith) in
    followed (next (known_by old)) (next_is c.len-depth.result old.slots.items c.truncate.new.self.items
    c.deref_mut.result.now c.turn_slots.new.slots _ old.blocks.items c.pop.new.self.items
    c.push_reserved.new.self.items block c.turned.result inner c.truncate.ensures.items c.deref_mut.ensures.value
    c.turn_slots.ensures all c.push_reserved.ensures.items c.turned.ensures)
    (next_follows (tracked_of old).slots (tracked_of old).blocks old.tracked)

pub invariant_of-self : goal.invariant_of-self
invariant_of-self c = record { tracked = (turned (goal.at.invariant_of-self c).After-push_reserved).tracked }

pub returns-in-Some-clause-known : goal.returns-in-Some-clause-known
returns-in-Some-clause-known c = known_is (turned (goal.at.returns-in-Some-clause-known c).After-push_reserved)

pub returns-in-Some-clause-apart : goal.returns-in-Some-clause-apart
returns-in-Some-clause-apart c =
    stays_turned c.args.self.now.blocks.items c.pop.new.self.items c.push_reserved.new.self.items c.in-Some.block
    c.turned.result c.in-Some.ensures.items c.push_reserved.ensures.items c.turned.ensures
