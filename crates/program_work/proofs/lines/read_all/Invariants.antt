use Rattle.std.proofs.Common.{◌≡◌, map, take, sum_by}
use Rattle.occam_parser.specs.Views.{expression_of}
use Rattle.program_sizes.specs.LineSizes.{size_of_expression}
use Rattle.program_work.specs.Readings.{capped, again_in}
use Rattle.program_work.proofs.lines.read_all.Given as goal

abbrev pub invariant-loop-expr : goal.invariant-loop-expr
invariant-loop-expr l = record {
  size : l.reading.size ≡ capped (sum_by size_of_expression (map expression_of (take l.expr-index l.exprs)));
  again : l.reading.again ≡ capped (sum_by again_in (map expression_of (take l.expr-index l.exprs)));
}
