use Rattle.std.proofs.Common.{◌≡◌, ◌≤◌, ◌<◌, ◌+◌, length, None}
use Rattle.std.specs.Prelude.{IfSome}
use Rattle.occam_layout.specs.Reading.{lines_of}
use Rattle.reason_texts.specs.Lines.{line_among}
use Rattle.reason_texts.proofs.lines.find_line.Given as goal

abbrev pub invariant-loop-rest : goal.invariant-loop-rest
invariant-loop-rest l = record {
  small : length l.source ≤ 1048576;
  within : l.offset ≤ 1048577;
  number : l.number ≤ l.offset + 1;
  offset : 0 < length l.rest → l.offset + length l.rest ≤ 1048576;
  level : IfSome l.above (λ a. a.level ≤ 1048576);
  so_far : line_among l.number l.offset l.above (lines_of l.rest) l.line ≡ line_among 1 0 None (lines_of l.source)
      l.line;
}

abbrev pub decreases-loop-rest : goal.decreases-loop-rest
decreases-loop-rest l = length l.rest
