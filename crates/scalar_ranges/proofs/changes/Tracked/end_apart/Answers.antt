use Rattle.std.proofs.Common.{arith, rules, refl, ap, ◌∙◌}
use Rattle.std.proofs.lemmas.List.{with_items_is, places}
use Rattle.std.specs.Vec.{with_items}
use Rattle.scalar_ranges.specs.Moves.{end}
use Rattle.scalar_ranges.specs.ChangeViews.{tracked_from, put_afters, changes_from}
use Rattle.scalar_ranges.specs.TrackedViews.{tracked_of, known_by}
use Rattle.scalar_ranges.proofs.Ending.{end_follows}
use Rattle.scalar_ranges.proofs.Noting.{Innermost, innermost}
use Rattle.scalar_ranges.proofs.Staying.{left_apart}
use Rattle.scalar_ranges.proofs.Turning.{followed, known_is, TakenBack, taken_back, afters_known, around, end_is}
use Rattle.scalar_ranges.proofs.changes.Tracked.end_apart.Goals as goal
use Rattle.scalar_ranges.proofs.changes.Tracked.end_apart.Goals.{After-take_back}

inner : (c : After-take_back)
    → Innermost c.args.self.now.blocks.items c.pop.new.self.items c.in-Some.block c.len-depth.result
inner c =
    innermost c.args.self.now.blocks.items c.pop.new.self.items c.in-Some.block c.len-depth.result
    c.in-Some.ensures.items (omega arith)

begun : (c : After-take_back)
    → TakenBack c.args.self.now.slots.items (with_items c.truncate.new.self c.take_back.new.slots).items
    c.take_back.new.changes c.len-depth.result c.in-Some.block
begun c =
    taken_back c.args.self.now.slots.items c.truncate.new.self.items c.deref_mut.result.now c.take_back.new.slots _
    c.deref_mut-in-Some.result.now c.take_back.new.changes c.len-depth.result c.in-Some.block
    c.truncate.ensures.items c.deref_mut.ensures.value c.deref_mut-in-Some.ensures.value c.take_back.ensures.same
    c.take_back.ensures.after c.take_back.ensures.slots
    (with_items_is c.truncate.new.self c.take_back.new.slots (search (rules, places)))

pub invariant_of-self-in-Some : goal.invariant_of-self-in-Some
invariant_of-self-in-Some c =
    let at = (goal.at.invariant_of-self-in-Some c).After-take_back in
    let old = c.args.self.now in
    record {
      tracked = around c.len-depth.result old.slots.items _ old.blocks.items c.pop.new.self.items c.in-Some.block
          (inner at) (begun at).begins old.tracked;
    }

pub returns-in-Some-clause-known : goal.returns-in-Some-clause-known
returns-in-Some-clause-known c =
    let at = (goal.at.returns-in-Some-clause-known c).After-take_back in
    let old = c.args.self.now in
    let depth = c.len-depth.result in
    let back = (with_items c.truncate.new.self c.take_back.new.slots).items in
    let rest = c.pop.new.self.items in
    let held = with_items_is c.in-Some.block.changes c.take_back.new.changes (search (rules, places)) in
    let lent = (with_items c.in-Some.block.changes c.take_back.new.changes).items in
    let start = tracked_from back rest in
    let together = around depth old.slots.items back old.blocks.items rest c.in-Some.block (inner at)
    (begun at).begins old.tracked in
    afters_known lent start together
    ∙ known_is (followed (end (known_by old)) (end_is depth old.slots.items back old.blocks.items rest
    c.in-Some.block c.take_back.new.changes lent (put_afters lent start) (inner at) (begun at) held refl)
    (end_follows (tracked_of old).slots (tracked_of old).blocks old.tracked))

pub returns-in-Some-clause-apart : goal.returns-in-Some-clause-apart
returns-in-Some-clause-apart c =
    let at = (goal.at.returns-in-Some-clause-apart c).After-take_back in
    let held = with_items_is c.in-Some.block.changes c.take_back.new.changes (search (rules, places)) in
    left_apart c.args.self.now.blocks.items c.pop.new.self.items c.in-Some.block _ (inner at).seen
    (ap changes_from held ∙ (begun at).same)
