use Rattle.std.proofs.Common.{◌≡◌, ◌+◌, ◌-◌, ◌*◌, ◌≤◌, length}
use Rattle.occam_parser.specs.Blocks.{rows_of}
use Rattle.occam_parser.specs.BlockReading.{begins_at}
use Rattle.occam_parser.proofs.ReadIntoTrees.{Continues}
use Rattle.occam_parser.proofs.block.+process.Given as goal

abbrev pub decreases-process : goal.decreases-process
decreases-process l = 4 * (66 - l.level)

abbrev pub decreases-block : goal.decreases-block
decreases-block l = 4 * (66 - l.level) + 2

abbrev pub decreases-construct : goal.decreases-construct
decreases-construct l = 4 * (66 - l.level) + 3

abbrev pub decreases-body : goal.decreases-body
decreases-body l = 4 * (66 - l.level) + 1

abbrev pub invariant-block-loop-goes_on : goal.invariant-block-loop-goes_on
invariant-block-loop-goes_on l =
    record {
      within : length l.rest ≤ length l.lines;
      begins : l.goes_on ≡ begins_at l.level (rows_of l.rest);
      reads : Continues l.kind l.level (rows_of l.lines) l.found l.rest;
    }

abbrev pub decreases-block-loop-goes_on : goal.decreases-block-loop-goes_on
decreases-block-loop-goes_on l = length l.rest
