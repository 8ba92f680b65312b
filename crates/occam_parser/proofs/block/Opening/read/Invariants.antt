use Rattle.std.proofs.Common.{◌≡◌, ◌<◌, ◌≤◌, ◌∷◌, [], length, map, true}
use Rattle.occam_parser.specs.LineViews.{declaration_of}
use Rattle.occam_parser.specs.Blocks.{row_of, rows_of}
use Rattle.occam_parser.specs.BlockReading.{is_at, beginning_from}
use Rattle.occam_parser.proofs.block.Opening.read.Given as goal

abbrev pub invariant-loop-declarations : goal.invariant-loop-declarations
invariant-loop-declarations l = record {
  low : l.level ≤ 64;
  at : is_at l.level (row_of l.line) ≡ true;
  within : length l.rest < length l.lines;
  reads : beginning_from l.level [] (rows_of l.lines) ≡ beginning_from l.level
      (map declaration_of l.declarations.items) (row_of l.line ∷ rows_of l.rest);
}

abbrev pub decreases-loop-declarations : goal.decreases-loop-declarations
decreases-loop-declarations l = length l.rest
