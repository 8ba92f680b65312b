use Rattle.std.proofs.Common.{◌≡◌, ◌∷◌, ◌∙◌, ap, arith, rules, length}
use Rattle.std.proofs.lemmas.List.{with_items_is, places}
use Rattle.std.specs.Vec.{with_items}
use Rattle.scalar_ranges.specs.Moves.{end}
use Rattle.scalar_ranges.specs.Changes.{Follows}
use Rattle.scalar_ranges.specs.ChangeViews.{branching_of, branchings_from, tracked_from}
use Rattle.scalar_ranges.specs.TrackedViews.{known_by}
use Rattle.scalar_ranges.proofs.Noting.{branchings_long}
use Rattle.scalar_ranges.proofs.Rows.{one_longer}
use Rattle.scalar_ranges.proofs.Staying.{stays_handed}
use Rattle.scalar_ranges.proofs.Turning.{followed, known_is, both_apart, over_is, over_follows, Fits, over_fits}
use Rattle.scalar_ranges.proofs.changes.Tracked.hand_over.Goals as goal
use Rattle.scalar_ranges.proofs.changes.Tracked.hand_over.Goals.{In-Some-pop, After-push_reserved}

-- the two innermost blocks
seen : (c : In-Some-pop) → branchings_from c.args.self.now.blocks.items
    ≡ branching_of c.in-Some.block ∷ branching_of c.in-Some-pop.outer ∷ branchings_from c.pop-in-Some.new.self.items
seen c =
    both_apart c.args.self.now.blocks.items c.pop.new.self.items c.pop-in-Some.new.self.items c.in-Some.block
    c.in-Some-pop.outer c.in-Some.ensures.items c.in-Some-pop.ensures.items

fits : (c : In-Some-pop) → Fits c.in-Some.block c.in-Some-pop.outer
fits c =
    over_fits c.args.self.now.slots.items c.args.self.now.blocks.items c.pop-in-Some.new.self.items c.in-Some.block
    c.in-Some-pop.outer (seen c) c.args.self.now.tracked c.requires

-- the innermost block's list is that of the block around
handed : (c : After-push_reserved) → branchings_from c.args.self.now.blocks.items
    ≡ branching_of c.in-Some.block ∷ branching_of c.in-Some-pop.outer ∷ branchings_from c.pop-in-Some.new.self.items
    → Follows (tracked_from (with_items c.truncate.new.self c.hand_slots.new.slots).items
    c.push_reserved.new.self.items) (end (known_by c.args.self.now))
handed c both =
    let old = c.args.self.now in
    let rest = c.pop-in-Some.new.self.items in
    let block = c.in-Some.block in
    let outer = c.in-Some-pop.outer in
    let all = ap length c.in-Some.ensures.items ∙ one_longer c.pop.new.self.items block in
    let others = ap length c.in-Some-pop.ensures.items ∙ one_longer rest outer in
    let long = branchings_long rest in
    followed (end (known_by old)) (over_is c.len-depth.result _ old.slots.items c.truncate.new.self.items
    c.deref_mut.result.now c.hand_slots.new.slots _ c.deref.result.now rest c.push_reserved.new.self.items block outer
    c.handed_block.result (omega arith) (omega arith) c.truncate.ensures.items c.deref_mut.ensures.value
    c.deref.ensures.value c.hand_slots.ensures (with_items_is c.truncate.new.self c.hand_slots.new.slots
    (search (rules, places))) c.push_reserved.ensures.items c.handed_block.ensures)
    (over_follows old.slots.items old.blocks.items rest block outer both old.tracked c.requires)

pub handed_block-requires-clause-room : goal.handed_block-requires-clause-room
handed_block-requires-clause-room c =
    let fit = (fits (goal.at.handed_block-requires-clause-room c).In-Some-pop).count in
    let room = c.in-Some.block.room in
    omega arith

pub handed_block-requires-clause-count : goal.handed_block-requires-clause-count
handed_block-requires-clause-count c = (fits (goal.at.handed_block-requires-clause-count c).In-Some-pop).room

pub handed_block-requires-clause-none : goal.handed_block-requires-clause-none
handed_block-requires-clause-none c = (fits (goal.at.handed_block-requires-clause-none c).In-Some-pop).none

pub invariant_of-self : goal.invariant_of-self
invariant_of-self c =
    let at = goal.at.invariant_of-self c in
    record { tracked = (handed at.After-push_reserved (seen at.In-Some-pop)).tracked }

pub returns-in-Some-pop-clause-known : goal.returns-in-Some-pop-clause-known
returns-in-Some-pop-clause-known c =
    let at = goal.at.returns-in-Some-pop-clause-known c in
    known_is (handed at.After-push_reserved (seen at.In-Some-pop))

pub returns-in-Some-pop-clause-apart : goal.returns-in-Some-pop-clause-apart
returns-in-Some-pop-clause-apart c =
    stays_handed c.args.self.now.blocks.items c.pop-in-Some.new.self.items c.push_reserved.new.self.items
    c.in-Some.block c.in-Some-pop.outer c.handed_block.result
    (seen (goal.at.returns-in-Some-pop-clause-apart c).In-Some-pop) c.push_reserved.ensures.items
    c.handed_block.ensures
