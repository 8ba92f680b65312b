use Rattle.std.proofs.Common.{◌≡◌, ◌++◌, drop}
use Rattle.code_pieces.specs.PieceViews.{pieces_of}
use Rattle.code_pieces.specs.Laying.{sizes_of}
use Rattle.code_pieces.proofs.sizes.sizes_of.Given as goal

abbrev pub invariant-loop-piece : goal.invariant-loop-piece
invariant-loop-piece l =
    l.sizes.items ++ sizes_of (pieces_of (drop l.piece-index l.pieces)) l.rest
    ≡ sizes_of (pieces_of l.pieces) l.fn.lengths
