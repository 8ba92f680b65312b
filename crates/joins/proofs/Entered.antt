-- The words of a PAR's channels, as they are taken away one after the other.
use Rattle.std.proofs.Common.{ℕ, List, map}
use Rattle.module_format.specs.declared.rows.ChannelRow.{ChannelRow}
use Rattle.machine_state.specs.Joins.{without_words}
use Rattle.machine_state.specs.BranchShares.{frame_address}
use Rattle.traffic.specs.Moment.{Moment}

-- nothing is in the words of these channels
abbrev pub without_rows : ℕ → List ChannelRow → Moment → Moment
without_rows base rows t = record t {
  world = record t.world {
    memory = without_words (map (λ (c : ChannelRow). frame_address base c.word) rows) t.world.memory;
  };
}
