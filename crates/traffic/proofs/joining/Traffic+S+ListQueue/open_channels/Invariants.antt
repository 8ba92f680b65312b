use Rattle.std.proofs.Common.{◌≡◌, ℕ, List, drop}
use Rattle.module_format.specs.declared.rows.ChannelRow.{ChannelRow}
use Rattle.machine_state.specs.Joins.{with_channels}
use Rattle.traffic.specs.Moment.{Moment}
use Rattle.traffic.proofs.joining.Traffic+S+ListQueue.open_channels.Given as goal

-- the channels of these rows are there
abbrev pub with_rows : ℕ → ℕ → List ChannelRow → Moment → Moment
with_rows p base rows t = record t {
  world = record t.world { channels = with_channels p base rows t.world.channels };
}

-- with those of the rest all are there
abbrev pub invariant-loop-row : goal.invariant-loop-row
invariant-loop-row g l =
    with_rows l.opener l.base (drop l.row-index l.channels) l.self
    ≡ with_rows l.opener l.base l.channels l.initial.self
