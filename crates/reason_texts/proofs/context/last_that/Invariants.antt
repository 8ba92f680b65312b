use Rattle.std.proofs.Common.{◌≡◌, ◌≤◌, length}
use Rattle.occam_parser.specs.Blocks.{rows_of}
use Rattle.reason_texts.specs.Contexts.{is_sought, last_that}
use Rattle.reason_texts.proofs.LinesAbove.{last_left, left_len}
use Rattle.reason_texts.proofs.context.last_that.Given as goal

abbrev pub invariant-loop-next : goal.invariant-loop-next
invariant-loop-next l = record {
  within : left_len l.next ≤ length l.lines;
  so_far : last_left (is_sought l.sought) l.next ≡ last_that (is_sought l.sought) (rows_of l.lines);
}

abbrev pub decreases-loop-next : goal.decreases-loop-next
decreases-loop-next l = left_len l.next
