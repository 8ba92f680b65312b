use Rattle.std.proofs.Common.{is_ok}
use Rattle.scalar_ranges.specs.ChangeViews.{entry_of}
use Rattle.scalar_ranges.proofs.Turning.{declared_is}
use Rattle.scalar_ranges.proofs.changes.Tracked.declare.Goals as goal

pub invariant_of-self : goal.invariant_of-self
invariant_of-self c =
    let old = c.args.self.now in
    record {
      tracked = declared_is (is_ok c.push.result) (entry_of c.args.entry) old.slots.items c.push.new.self.items
          old.blocks.items c.fresh.result c.push.ensures.items c.fresh.ensures old.tracked;
    }
