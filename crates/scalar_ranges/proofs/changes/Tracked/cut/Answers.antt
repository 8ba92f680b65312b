use Rattle.scalar_ranges.specs.ChangeViews.{branchings_from}
use Rattle.scalar_ranges.specs.TrackedViews.{tracked_of}
use Rattle.scalar_ranges.proofs.Cutting.{cut_follows}
use Rattle.scalar_ranges.proofs.Turning.{kept, cut_is}
use Rattle.scalar_ranges.proofs.changes.Tracked.cut.Goals as goal

pub invariant_of-self : goal.invariant_of-self
invariant_of-self c =
    let old = c.args.self.now in
    let is = cut_is c.args.count old.slots.items c.truncate.new.self.items (branchings_from old.blocks.items)
    c.truncate.ensures.items in
    record { tracked = kept is (cut_follows c.args.count (tracked_of old) old.tracked c.requires).tracked }

pub returns : goal.returns
returns c =
    let old = c.args.self.now in
    cut_is c.args.count old.slots.items c.truncate.new.self.items (branchings_from old.blocks.items)
    c.truncate.ensures.items
