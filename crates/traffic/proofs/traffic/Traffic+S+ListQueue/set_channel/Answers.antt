use Rattle.std.proofs.Common.{◌≡◌, ◌<◌, Some, slice_get, length, refl, arith}
use Rattle.std.proofs.lemmas.Option.{slice_get_read}
use Rattle.traffic.proofs.Counting.{channel_recounted}
use Rattle.traffic.proofs.Uncounted.{all_after_channel}
use Rattle.traffic.proofs.traffic.Traffic+S+ListQueue.set_channel.Goals as goal

pub invariant_of-self : goal.invariant_of-self
invariant_of-self g c =
    let channels = c.self.inside.channels.items in
    let place = c.cell_of-place.result in
    let before = c.index-was.result.now in
    let within : place < length channels = omega arith in
    let there : slice_get channels place ≡ Some before =
    slice_get_read channels (length channels) place before refl within c.index-was.ensures in
    record {
      steady = c.self.invariant.steady;
      four_inputs = c.self.invariant.four_inputs;
      four_outputs = c.self.invariant.four_outputs;
      counted =
          rw (c.hand_over.ensures, c.enabler_of-before.ensures)
          (channel_recounted c.self.inside.enabled_counts.items c.self.inside.inputs channels place before
          (Some c.args.channel) there c.self.invariant.counted);
      all =
          rw (
            c.hand_over.ensures,
            c.are_still_all-self-inside.ensures,
            c.deref.ensures.value,
            c.enabler_of-before.ensures,
          )
          (all_after_channel c.self.inside.are_all_counted c.self.inside.enabled_counts.items c.self.inside.inputs
          channels place before (Some c.args.channel) there c.self.invariant.all);
      listed = c.enlist.ensures channels c.args.channel there refl c.self.invariant.listed;
    }
