use Rattle.std.proofs.Common.{map}
use Rattle.occam_parser.specs.Blocks.{rows_of}
use Rattle.occam_parser.specs.BlockViews.{item_of}
use Rattle.occam_parser.proofs.Programs.{ContinuesProgram}
use Rattle.occam_parser.proofs.SeenItems.{rows_left, left_len}
use Rattle.occam_parser.proofs.program.items.Given as goal

abbrev pub invariant-loop-next : goal.invariant-loop-next
invariant-loop-next l = ContinuesProgram (rows_of l.lines) (map item_of l.found.items) (rows_left l.next)

abbrev pub decreases-loop-next : goal.decreases-loop-next
decreases-loop-next l = left_len l.next
