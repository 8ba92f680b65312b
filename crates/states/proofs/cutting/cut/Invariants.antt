use Rattle.std.proofs.Common.{length}
use Rattle.module_format.specs.Order.{InOrder, least_word}
use Rattle.module_format.specs.Pars.{IntervalKeeps, behind_interval}
use Rattle.states.specs.Cutting.{IsCutBefore}
use Rattle.states.proofs.cutting.cut.Given as goal

abbrev pub invariant-loop-entry : goal.invariant-loop-entry
invariant-loop-entry l = record {
  order : InOrder IntervalKeeps behind_interval least_word l.left;
  cut : IsCutBefore l.side l.intervals l.entries l.rest l.pieces.items l.left;
}

abbrev pub decreases-loop-entry : goal.decreases-loop-entry
decreases-loop-entry l = length l.rest
