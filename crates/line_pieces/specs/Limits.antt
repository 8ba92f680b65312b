-- How much code there may be: what is more than this is of no module, or takes too long.
use Rattle.std.specs.Prelude.{ℕ, ◌*◌, nat_lt, Bool, ◌||◌, List, length, sum_by}
use Rattle.code_pieces.specs.Pieces.{Piece, Row}
use Rattle.line_pieces.specs.declared.pieces.TheConstants.{GREATEST_COUNT, GREATEST_ROWS, GREATEST_SAID}
use Rattle.line_pieces.specs.declared.pieces.TheConstants.{GREATEST_LOOKS}

-- a row is one
abbrev pub rows_at : Piece → ℕ
rows_at (Row label entries) = 1
rows_at piece = 0

-- how many entries a row has
abbrev pub said_at : Piece → ℕ
said_at (Row label entries) = length entries
said_at piece = 0

abbrev pub rows_in : List Piece → ℕ
rows_in ps = sum_by rows_at ps

abbrev pub said_in : List Piece → ℕ
said_in ps = sum_by said_at ps

-- There are too many pieces, rows or entries, or too many names are looked at for the rows, where this number of names
-- is known at most.
unfoldable pub is_too_much : ℕ → List Piece → Bool
is_too_much names ps =
    nat_lt GREATEST_COUNT (length ps) || nat_lt GREATEST_ROWS (rows_in ps) || nat_lt GREATEST_SAID (said_in ps)
    || nat_lt GREATEST_LOOKS (rows_in ps * names)
