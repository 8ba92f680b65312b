use Rattle.std.proofs.Common.{◌≡◌, ◌++◌}
use Rattle.std.specs.Vec.Iter.{into_iter_items}
use Rattle.code_pieces.specs.PieceViews.{pieces_of}
use Rattle.line_pieces.proofs.listing.Listing.take_pieces.Given as goal

abbrev pub invariant-loop-piece : goal.invariant-loop-piece
invariant-loop-piece l =
    l.self ++ pieces_of (into_iter_items l.piece-iterator) ≡ l.fn.self ++ pieces_of l.fn.pieces.items
