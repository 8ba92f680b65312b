use Rattle.std.proofs.Common.{◌≡◌, true, is_ok, ap, length, arith}
use Rattle.std.proofs.lemmas.List.{length-map}
use Rattle.scalar_ranges.specs.ChangeViews.{slot_of, slots_from, changes_from}
use Rattle.scalar_ranges.proofs.Turning.{begun_is}
use Rattle.scalar_ranges.proofs.changes.Tracked.begin.Goals as goal

pub invariant_of-self : goal.invariant_of-self
invariant_of-self c =
    let old = c.args.self.now in
    let long = length-map old.slots.items slot_of in
    let count : c.len-count.result ≡ length (slots_from old.slots.items) = omega arith in
    let none = ap changes_from c.in_ok-changes.ensures.items in
    let earlier = c.in_ok-earlier.ensures.items in
    let recent = c.in_ok-recent.ensures.items in
    record {
      tracked = begun_is (is_ok c.push.result) c.args.ended old.slots.items old.blocks.items c.push.new.self.items _
          c.push.ensures.items (λ i. record {
            count = count i;
            ended = c.args.ended;
            even = true;
            changes = none i;
            earlier = earlier i;
            recent = recent i;
          }) old.tracked;
    }
