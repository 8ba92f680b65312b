use Rattle.std.specs.List.{AllByRecursion}
use Rattle.std.proofs.Common.{drop}
use Rattle.code_pieces.specs.PieceViews.{pieces_of}
use Rattle.meant_code.specs.OwnCode.{OperandFits}
use Rattle.compiler.proofs.generating.operands_are_words.Given as goal

-- where those that are left have words, all have
abbrev pub invariant-loop-piece : goal.invariant-loop-piece
invariant-loop-piece l =
    AllByRecursion OperandFits (pieces_of (drop l.piece-index l.pieces)) → AllByRecursion OperandFits (pieces_of l.pieces)
