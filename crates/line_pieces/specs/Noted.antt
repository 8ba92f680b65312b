-- The ends of channels that are noted: how code and rows name them.
use Rattle.std.specs.Prelude.{pos, List, [], ◌∷◌, Option, Some, None}
use Rattle.module_format.specs.declared.rows.Direction.{Direction}
use Rattle.module_format.specs.declared.rows.Direction.TheVariants as direction
use Rattle.module_format.specs.declared.rows.EndKind.{EndKind}
use Rattle.module_format.specs.declared.rows.EndKind.TheVariants as kind
use Rattle.module_format.specs.declared.rows.EndRow.{EndRow}
use Rattle.code_pieces.specs.Pieces.{Piece, points}
use Rattle.line_pieces.specs.Actions.{link_code}
use Rattle.line_pieces.specs.declared.noting.ChannelEnd.{ChannelEnd}
use Rattle.line_pieces.specs.declared.noting.ChannelPlace.{ChannelPlace}
use Rattle.line_pieces.specs.declared.noting.ChannelPlace.TheVariants.{Word, Link}
use Rattle.line_pieces.specs.declared.noting.Way.{Way}
use Rattle.line_pieces.specs.declared.noting.Way.TheVariants.{In, Out}

-- the address of a channel
abbrev pub place_code : Option ChannelPlace → List Piece
place_code None = []
place_code (Some (Word word)) = points word ∷ []
place_code (Some (Link number)) = link_code number

abbrev pub end_kind : ChannelPlace → EndKind
end_kind (Word word) = kind.FrameWord (pos word)
end_kind (Link number) = kind.Link number

abbrev pub direction_of : Way → Direction
direction_of In = direction.In
direction_of Out = direction.Out

abbrev pub end_row : ChannelEnd → EndRow
end_row e = record { kind = end_kind e.place; direction = direction_of e.way }
