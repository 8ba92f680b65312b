use Rattle.std.proofs.Common.{◌≡◌, ◌≤◌, ◌<◌, ◌+◌, length, map}
use Rattle.occam_layout.specs.Reading.{row_of, lines_of, rows_at}
use Rattle.occam_layout.proofs.Loop.{with_front}
use Rattle.occam_layout.proofs.layout.read_lines.Given as goal

abbrev pub invariant-loop-rest : goal.invariant-loop-rest
invariant-loop-rest l = record {
  small : length l.source ≤ 1048576;
  few : l.number ≤ 32769;
  within : l.offset ≤ 1048577;
  offset : 0 < length l.rest → l.offset + length l.rest ≤ 1048576;
  so_far : with_front (map row_of l.lines.items) (rows_at l.number l.offset l.deepest (lines_of l.rest)) ≡ rows_at 1
      0 0 (lines_of l.source);
}

abbrev pub decreases-loop-rest : goal.decreases-loop-rest
decreases-loop-rest l = length l.rest
