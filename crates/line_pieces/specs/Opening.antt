-- The pieces of a PAR: those of the process that begins it, and its branches.
use Rattle.std.specs.Prelude.{ℕ, ◌+◌, ℤ, pos, unsigned_abs, List, [], ◌∷◌, ◌++◌, length, Option, Some, None}
use Rattle.module_format.specs.declared.rows.ChannelRow.{ChannelRow}
use Rattle.code_pieces.specs.declared.operations.TheConstants.{MINIMUM_INTEGER, LOAD_POINTER_TO_INSTRUCTION}
use Rattle.code_pieces.specs.declared.operations.TheConstants.{END_PROCESS}
use Rattle.code_pieces.specs.declared.piece.ParBranch.{ParBranch}
use Rattle.code_pieces.specs.PieceViews.{pieces_of}
use Rattle.code_pieces.specs.Pieces.{Piece, Distance, StartBranch, Place, operates, stores, points, constant}
use Rattle.code_pieces.specs.Pieces.{word_after}
use Rattle.line_pieces.specs.declared.branches.Branch.{Branch}

-- channels are empty
abbrev pub emptied : List ChannelRow → List Piece
emptied [] = []
emptied (c ∷ cs) = operates MINIMUM_INTEGER ∷ stores (unsigned_abs c.word) ∷ emptied cs

-- The block of a PAR at the workspace: where the process goes on that begins it, by a label that distances are counted
-- from, and how many processes end.
abbrev pub block_code : (depth from successor : ℕ) → ℤ → List Piece
block_code depth from successor ends =
    Distance from successor ∷ operates LOAD_POINTER_TO_INSTRUCTION ∷ Place from ∷ stores depth ∷ constant ends
    ∷ stores (word_after depth 1) ∷ []

-- A branch with this entry starts, whose workspace is at this depth.
abbrev pub start_code : (from entry depth : ℕ) → Option ℕ → List Piece
start_code from entry depth successor =
    Distance from entry ∷ points depth ∷ StartBranch entry successor ∷ Place from ∷ []

-- A process of a PAR ends, whose block is at this word.
abbrev pub end_code : ℕ → List Piece
end_code block = points block ∷ operates END_PROCESS ∷ []

-- The branches start, with labels from this one on that distances are counted from. The first one pays for what is
-- after the PAR too.
abbrev pub starts_code : ℕ → Option ℕ → List Branch → List Piece
starts_code from successor [] = []
starts_code from successor (b ∷ bs) = start_code from b.entry b.depth successor ++ starts_code (from + 1) None bs

-- The process that begins a PAR, up to where it ends: channels are empty, its branches start, and as many processes end
-- and one.
abbrev pub opener_code : (depth label successor : ℕ) → List ChannelRow → List Branch → List Piece
opener_code depth label successor channels branches =
    emptied channels
    ++ (block_code depth label successor (pos (length branches + 1))
    ++ (starts_code (label + 1) (Some successor) branches ++ end_code depth))

abbrev pub branches_code : List Branch → List Piece
branches_code [] = []
branches_code (b ∷ bs) = pieces_of b.pieces.items ++ branches_code bs

-- what a branch has
abbrev pub row_in : Branch → ParBranch
row_in b = b.row
