-- What a branch is given, as the definitions have it.
use Rattle.std.specs.Prelude.{map}
use Rattle.machine_state.specs.Spans.{Share}
use Rattle.machine_state.specs.Stretches.{stretch_view}
use Rattle.joins.specs.declared.share.Share as kept

abbrev pub share_view : kept.Share → Share
share_view s = record {
  writes = map stretch_view s.writes.items;
  reads = map stretch_view s.reads.items;
  ends = s.ends.items;
}
