use Rattle.std.proofs.Common.{◌≡◌, ◌<◌, ◌≤◌, ℕ, length, drop, get_or}
use Rattle.std.specs.List.{AllByRecursion}
use Rattle.code_pieces.specs.PieceViews.{pieces_of}
use Rattle.code_pieces.specs.Contexts.{nowhere, name_from}
use Rattle.code_pieces.specs.Laying.{pars_of}
use Rattle.code_pieces.specs.WellFormed.{IsOfOneProcess}
use Rattle.code_pieces.proofs.contexts.ContextNames.of.Given as goal

abbrev pub invariant-loop-piece : goal.invariant-loop-piece
invariant-loop-piece l = record {
  small : l.par ≤ l.piece-index;
  each : (k : ℕ) → k < length l.names.items
      → name_from k l.par (pars_of (pieces_of (drop l.piece-index l.pieces))) (get_or l.names.items k nowhere)
      ≡ name_from k 0 (pars_of (pieces_of l.pieces)) nowhere;
  alone : AllByRecursion IsOfOneProcess (pieces_of l.pieces)
      → AllByRecursion IsOfOneProcess (pieces_of (drop l.piece-index l.pieces));
}
