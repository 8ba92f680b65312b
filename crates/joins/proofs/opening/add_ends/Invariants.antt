use Rattle.std.proofs.Common.{◌≡◌, ℕ, map, drop}
use Rattle.module_format.specs.declared.rows.ChannelRow.{ChannelRow}
use Rattle.module_format.specs.declared.rows.Direction.TheVariants.{In}
use Rattle.machine_state.specs.StartPlans.{with_ends}
use Rattle.machine_state.specs.BranchShares.{frame_address}
use Rattle.machine_state.specs.Spans.{is_among_ends}
use Rattle.joins.specs.EndSets.{has}
use Rattle.joins.proofs.opening.add_ends.Given as goal

-- those that receive are there, and with the ends of the rest they are all
abbrev pub invariant-loop-channel : goal.invariant-loop-channel
invariant-loop-channel l = record {
  there : (a : ℕ) → has l.held (record { address = a; direction = In })
      ≡ is_among_ends l.ends.items (record { address = a; direction = In });
  all : with_ends (map (λ (c : ChannelRow). frame_address l.base c.word) (drop l.channel-index l.channels)) l.ends.items
      ≡ with_ends (map (λ (c : ChannelRow). frame_address l.base c.word) l.channels) l.initial.ends.items;
}
