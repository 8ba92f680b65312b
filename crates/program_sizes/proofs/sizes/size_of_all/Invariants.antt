use Rattle.std.proofs.Common.{◌≡◌, map, take, sum_by}
use Rattle.occam_parser.specs.Views.{expression_of}
use Rattle.program_sizes.specs.LineSizes.{capped, size_of_expression}
use Rattle.program_sizes.proofs.sizes.size_of_all.Given as goal

abbrev pub invariant-loop-expr : goal.invariant-loop-expr
invariant-loop-expr l = l.size ≡ capped (sum_by size_of_expression (map expression_of (take l.expr-index l.exprs)))
