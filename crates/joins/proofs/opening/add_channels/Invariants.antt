use Rattle.std.proofs.Common.{◌≡◌, ◌++◌, map, drop}
use Rattle.module_format.specs.declared.rows.ChannelRow.{ChannelRow}
use Rattle.machine_state.specs.BranchShares.{frame_address}
use Rattle.joins.specs.Opened.{word_stretch}
use Rattle.joins.proofs.opening.add_channels.Given as goal

-- those so far and those of the rest are all
abbrev pub invariant-loop-channel : goal.invariant-loop-channel
invariant-loop-channel l =
    l.writes.items
    ++ map (λ (c : ChannelRow). word_stretch (frame_address l.base c.word)) (drop l.channel-index l.channels)
    ≡ l.initial.writes.items ++ map (λ (c : ChannelRow). word_stretch (frame_address l.base c.word)) l.channels
