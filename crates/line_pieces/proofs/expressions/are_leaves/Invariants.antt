use Rattle.std.proofs.Common.{◌≡◌, map, drop}
use Rattle.occam_parser.specs.Views.{term_of}
use Rattle.scalar_ranges.specs.Scopes.{entries_of}
use Rattle.line_pieces.specs.Expressions.{are_leaves}
use Rattle.line_pieces.proofs.expressions.are_leaves.Given as goal

abbrev pub invariant-loop-operand : goal.invariant-loop-operand
invariant-loop-operand l =
    are_leaves (entries_of l.scope) (map term_of (drop l.operand-index l.operands))
    ≡ are_leaves (entries_of l.scope) (map term_of l.operands)
