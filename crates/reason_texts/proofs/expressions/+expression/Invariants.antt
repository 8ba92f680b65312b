use Rattle.std.proofs.Common.{◌≡◌, ◌+◌, ◌*◌}
use Rattle.occam_parser.specs.Terminals.{terminals_of}
use Rattle.reason_texts.specs.Expressions.{past_operand, past_more, past_chain}
use Rattle.reason_texts.proofs.expressions.+expression.Given as goal

abbrev pub decreases-past_expression : goal.decreases-past_expression
decreases-past_expression l = 6 * l.levels + 5

abbrev pub decreases-one_operator : goal.decreases-one_operator
decreases-one_operator l = 6 * l.levels + 4

abbrev pub decreases-past_chain : goal.decreases-past_chain
decreases-past_chain l = 6 * l.levels + 3

abbrev pub decreases-past_operand : goal.decreases-past_operand
decreases-past_operand l = 6 * l.levels + 2

abbrev pub decreases-past_marked : goal.decreases-past_marked
decreases-past_marked l = 6 * l.levels + 1

abbrev pub decreases-past_within : goal.decreases-past_within
decreases-past_within l = 6 * l.levels

abbrev pub decreases-past_inner : goal.decreases-past_inner
decreases-past_inner l = 6 * l.levels

abbrev pub invariant-past_chain-loop-turns : goal.invariant-past_chain-loop-turns
invariant-past_chain-loop-turns l =
    past_more (past_operand l.levels) l.mark l.turns (terminals_of l.rest)
    ≡ past_chain (past_operand l.levels) l.mark (terminals_of l.tokens)

abbrev pub decreases-past_chain-loop-turns : goal.decreases-past_chain-loop-turns
decreases-past_chain-loop-turns l = l.turns
