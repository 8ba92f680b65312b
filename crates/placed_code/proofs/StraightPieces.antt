-- What straight pieces do, one after the other.
use Rattle.std.proofs.Common.{List, ◌++◌}
use Rattle.code_pieces.specs.Pieces.{Piece}
use Rattle.placed_code.specs.StraightPieces.{Footing, Held, LeadOn, done, next, table, StraightPiecesFollow}

-- pieces, and then others
pub lead_both : {w : Footing} {ps qs : List Piece} {g h k : Held} → LeadOn w ps g h → LeadOn w qs h k
    → LeadOn w (ps ++ qs) g k
lead_both done b = b
lead_both (next x a) b = next x (lead_both a b)
lead_both (table a) b = table (lead_both a b)

pub straight_pieces_follow : StraightPiecesFollow
straight_pieces_follow w ps qs g h k a b = lead_both a b
