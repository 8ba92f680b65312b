use Rattle.std.proofs.Common.{◌≤◌, drop}
use Rattle.module_format.specs.declared.limits.TheConstants.{MAX_BUDGET}
use Rattle.code_pieces.specs.PieceViews.{pieces_of}
use Rattle.code_pieces.specs.Numbers.{needs_of}
use Rattle.code_pieces.specs.Needed.{IsKnown, HasLabels}
use Rattle.code_pieces.proofs.NeedsWithin.{AreWithinFrom}
use Rattle.code_pieces.proofs.needs.Needs.of.Given as goal

abbrev pub invariant-loop-number : goal.invariant-loop-number
invariant-loop-number l = record {
  known : IsKnown l.needs (needs_of (pieces_of (drop l.number l.pieces)) (drop l.number l.sizes));
  need : l.needs.need ≤ MAX_BUDGET;
  labels : HasLabels l.labels l.needs;
  within : AreWithinFrom l.number (pieces_of l.pieces) l.sizes;
}
