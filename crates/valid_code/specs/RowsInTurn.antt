-- The rows of sequential programs are of words in turn, below the end of the frame.
use Rattle.std.specs.Prelude.{◌≡◌, ◌≤◌, ⊤, ℕ, List, Some}
use Rattle.std.specs.List.{AllByRecursion}
use Rattle.module_format.specs.declared.limits.TheConstants.{MAX_DATA_WORDS}
use Rattle.occam_parser.specs.Blocks.{ProgramItem}
use Rattle.program_meaning.specs.Sequential.{IsSequentialProgram}
use Rattle.code_pieces.specs.Pieces.{Piece, Row, Code}
use Rattle.code_pieces.specs.Laying.{words_taken}
use Rattle.code_generator.specs.Programs.{code_of}
use Rattle.valid_code.specs.ValidPieces.{InTurn}

-- a row is of words in turn, below this one
abbrev pub IsRowInTurn : ℕ → Piece → Type 0
IsRowInTurn words (Row l entries) = InTurn 0 entries words
IsRowInTurn words p = ⊤

-- In the code of a sequential program each row is of words in turn that the code takes, if these are few enough for a
-- file.
abbrev pub RowsAreInTurn : Type 0
RowsAreInTurn = (items : List ProgramItem) (c : Code) → IsSequentialProgram items → code_of items ≡ Some c
    → words_taken c.pieces ≤ MAX_DATA_WORDS → AllByRecursion (IsRowInTurn (words_taken c.pieces)) c.pieces
