use Rattle.std.specs.List.{AllByRecursion}
use Rattle.std.proofs.Common.{drop}
use Rattle.code_pieces.specs.PieceViews.{pieces_of}
use Rattle.valid_code.specs.ValidPrograms.{SaysTables}
use Rattle.compiler.proofs.generating.tables_are_words.Given as goal

-- where the tables of those that are left are of words, all are
abbrev pub invariant-loop-piece : goal.invariant-loop-piece
invariant-loop-piece l =
    AllByRecursion SaysTables (pieces_of (drop l.piece-index l.pieces)) → AllByRecursion SaysTables (pieces_of l.pieces)
