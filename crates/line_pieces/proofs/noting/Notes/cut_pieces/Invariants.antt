use Rattle.std.proofs.Common.{◌≡◌, ◌++◌, map}
use Rattle.std.specs.Vec.Iter.{into_iter_items}
use Rattle.code_pieces.specs.PieceViews.{pieces_of}
use Rattle.line_pieces.specs.Cutting.{uses_of, cut_piece}
use Rattle.line_pieces.proofs.noting.Notes.cut_pieces.Given as goal

abbrev pub invariant-loop-piece : goal.invariant-loop-piece
invariant-loop-piece l =
    let cut = cut_piece l.self.outside (uses_of l.self) in
    pieces_of l.cut.items ++ map cut (pieces_of (into_iter_items l.piece-iterator))
    ≡ map cut (pieces_of l.fn.pieces.items)
