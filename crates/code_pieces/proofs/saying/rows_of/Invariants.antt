use Rattle.std.proofs.Common.{◌≡◌, ◌++◌, List, map, drop}
use Rattle.std.specs.List.{AllByRecursion}
use Rattle.code_pieces.specs.Pars.{Par}
use Rattle.code_pieces.specs.PieceViews.{pieces_of}
use Rattle.code_pieces.specs.Contexts.{AreNames}
use Rattle.code_pieces.specs.Numbers.{Needs}
use Rattle.code_pieces.specs.Needed.{IsKnown}
use Rattle.code_pieces.specs.Laying.{said_rows_from, said_rows}
use Rattle.code_pieces.specs.DraftedRows.{shown_row, drafted_row}
use Rattle.code_pieces.specs.WellFormed.{IsOfOneProcess}
use Rattle.code_pieces.specs.declared.piece.CodeContext.TheVariants.{Root}
use Rattle.code_pieces.proofs.saying.rows_of.Given as goal

abbrev pub invariant-loop-piece : goal.invariant-loop-piece
invariant-loop-piece l = record {
  rows : (ps : List Par) (n : Needs) → AreNames l.contexts ps → IsKnown l.needs n
      → map shown_row l.rows.items
      ++ map (drafted_row ps) (said_rows_from l.workspace n (pieces_of (drop l.piece-index l.pieces)))
      ≡ map (drafted_row ps) (said_rows n (pieces_of l.pieces));
  root : AllByRecursion IsOfOneProcess (pieces_of l.pieces) → l.workspace.context ≡ Root;
}
