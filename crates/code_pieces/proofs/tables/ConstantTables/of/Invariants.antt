use Rattle.std.proofs.Common.{◌≡◌, [], drop}
use Rattle.code_pieces.specs.PieceViews.{pieces_of}
use Rattle.code_pieces.specs.Laying.{tables_before}
use Rattle.code_pieces.proofs.tables.ConstantTables.of.Given as goal

abbrev pub invariant-loop-piece : goal.invariant-loop-piece
invariant-loop-piece l =
    tables_before l.tables (pieces_of (drop l.piece-index l.pieces)) ≡ tables_before [] (pieces_of l.pieces)
