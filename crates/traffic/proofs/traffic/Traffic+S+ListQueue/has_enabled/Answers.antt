use Rattle.std.proofs.Common.{◌≡◌, Some, slice_get}
use Rattle.traffic.proofs.Counting.{enabled_by_count}
use Rattle.traffic.proofs.traffic.Traffic+S+ListQueue.has_enabled.Goals as goal

pub returns-in-Some : goal.returns-in-Some
returns-in-Some g c =
    let counts = c.self.inside.enabled_counts.items in
    let there : slice_get counts c.args.process ≡ Some c.in-Some.count =
    cc (c.deref.ensures.value, c.in-Some.ensures) in
    rw (← c.self.view_is)
    (enabled_by_count counts c.self.inside.inputs c.self.inside.channels.items c.args.process c.in-Some.count
    c.self.invariant.counted there)
