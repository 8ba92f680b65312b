use Rattle.std.proofs.Common.{◌∙◌, pos}
use Rattle.std.specs.Ordering.{int_cmp}
use Rattle.std.specs.BTreeMap.{get}
use Rattle.module_format.specs.declared.rows.ChannelRow.{ChannelRow}
use Rattle.certificate.proofs.AroundLaws.{saved_more}
use Rattle.certificate.proofs.around.lengths_of.Goals as goal

pub loop-channel-preserved : goal.loop-channel-preserved
loop-channel-preserved c =
    let none : ChannelRow = record { word = pos 0; length = 0 } in
    saved_more (get int_cmp c.args.lengths.now) c.args.channels.now c.loop-channel.channel-index none
    c.loop-channel.saved.items c.push.new.self.items c.copied.result c.loop-channel-test.true
    c.in_ok-push.ensures.items c.loop-channel.invariant (c.copied.ensures ∙ c.get.ensures.value)
