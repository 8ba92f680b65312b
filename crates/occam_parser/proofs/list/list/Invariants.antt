use Rattle.std.proofs.Common.{◌≤◌, length, map}
use Rattle.occam_parser.specs.Terminals.{terminals_of}
use Rattle.occam_parser.proofs.ListsAreRead.{Continues}
use Rattle.occam_parser.proofs.list.list.Given as goal

abbrev pub invariant-loop-after : goal.invariant-loop-after
invariant-loop-after g l = record {
  within : length l.rest ≤ length l.tokens;
  reads : Continues g.T.FromTokens.reads (terminals_of l.tokens) (g.T.FromTokens.tree l.first)
      (map g.T.FromTokens.tree l.others.items)
      (terminals_of l.rest);
}

abbrev pub decreases-loop-after : goal.decreases-loop-after
decreases-loop-after g l = length l.rest
