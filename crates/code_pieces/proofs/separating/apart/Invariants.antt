use Rattle.std.proofs.Common.{◌≡◌, ◌++◌}
use Rattle.std.specs.Vec.Iter.{into_iter_items}
use Rattle.code_pieces.specs.PieceViews.{pieces_of}
use Rattle.code_pieces.specs.Laying.{apart_from, apart}
use Rattle.code_pieces.proofs.separating.apart.Given as goal

abbrev pub invariant-loop-piece : goal.invariant-loop-piece
invariant-loop-piece l =
    pieces_of l.separate.items ++ apart_from l.at_row (pieces_of (into_iter_items l.piece-iterator))
    ≡ apart (pieces_of l.fn.pieces.items)
