use Rattle.std.proofs.Common.{◌≡◌, rules}
use Rattle.std.proofs.lemmas.List.{with_items_is, places}
use Rattle.std.specs.Vec.{with_items}
use Rattle.scalar_ranges.specs.Changes.{put_by}
use Rattle.scalar_ranges.specs.ChangeViews.{updated, tracked_from}
use Rattle.scalar_ranges.specs.TrackedViews.{tracked_of}
use Rattle.scalar_ranges.proofs.Touching.{put_tracked}
use Rattle.scalar_ranges.proofs.Turning.{kept, put_is}
use Rattle.scalar_ranges.proofs.changes.Tracked.update.Goals as goal
use Rattle.scalar_ranges.proofs.changes.Tracked.update.Goals.{After-modify}

changed : (c : After-modify)
    → tracked_from (with_items c.note.new.self.slots c.modify.new.slots).items c.note.new.self.blocks.items
    ≡ put_by (updated c.args.update) c.args.number (tracked_of c.args.self.now)
changed c =
    put_is (updated c.args.update) c.args.number c.args.self.now c.note.new.self c.deref_mut.result.now
    c.modify.new.slots _ c.note.ensures c.deref_mut.ensures.value c.modify.ensures
    (with_items_is c.note.new.self.slots c.modify.new.slots (search (rules, places)))

pub invariant_of-self : goal.invariant_of-self
invariant_of-self c =
    let old = c.args.self.now in
    record {
      tracked = kept (changed (goal.at.invariant_of-self c).After-modify)
          (put_tracked (updated c.args.update) c.args.number (tracked_of old) c.requires old.tracked);
    }

pub returns : goal.returns
returns c = changed (goal.at.returns c).After-modify
