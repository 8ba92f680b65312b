use Rattle.std.proofs.Common.{◌≡◌, ◌+◌, ◌*◌, ◌≤◌, length, map}
use Rattle.occam_parser.specs.Terminals.{terminals_of}
use Rattle.occam_parser.specs.Expressions.{Two}
use Rattle.occam_parser.specs.Views.{term_of, with_others}
use Rattle.occam_parser.specs.Reading.{term_at}
use Rattle.occam_parser.proofs.ListsAreRead.{Chains}
use Rattle.occam_parser.proofs.expression.+expression.Given as goal

abbrev pub decreases-nested : goal.decreases-nested
decreases-nested l = 6 * l.levels + 5

abbrev pub decreases-one_operator : goal.decreases-one_operator
decreases-one_operator l = 6 * l.levels + 4

abbrev pub decreases-chain : goal.decreases-chain
decreases-chain l = 6 * l.levels + 3

abbrev pub decreases-operand : goal.decreases-operand
decreases-operand l = 6 * l.levels + 2

abbrev pub decreases-marked : goal.decreases-marked
decreases-marked l = 6 * l.levels + 1

abbrev pub decreases-named : goal.decreases-named
decreases-named l = 6 * l.levels + 1

abbrev pub decreases-converted : goal.decreases-converted
decreases-converted l = 6 * l.levels

abbrev pub decreases-deeper : goal.decreases-deeper
decreases-deeper l = 6 * l.levels

abbrev pub invariant-chain-loop-after : goal.invariant-chain-loop-after
invariant-chain-loop-after l = record {
  within : length l.rest ≤ length l.tokens;
  same : l.first ≡ l.fn.first;
  reads : Chains (term_at l.levels) l.operator l.mark (term_of l.fn.first) (terminals_of l.tokens)
      (with_others (Two (term_of l.fn.first) (term_of l.second)) (map term_of l.others.items)) (terminals_of l.rest);
}

abbrev pub decreases-chain-loop-after : goal.decreases-chain-loop-after
decreases-chain-loop-after l = length l.rest
