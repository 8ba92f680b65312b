-- A file can say what the rows of sequential programs say.
use Rattle.std.specs.Prelude.{◌≡◌, true, ⊤, ℕ, List, Some}
use Rattle.std.specs.List.{AllByRecursion}
use Rattle.occam_parser.specs.Blocks.{ProgramItem}
use Rattle.occam_parser.specs.Words.{items_have_words}
use Rattle.program_meaning.specs.Sequential.{IsSequentialProgram}
use Rattle.usage_checks.specs.ItemRules.{BreaksNoRule}
use Rattle.code_pieces.specs.Pieces.{Piece, Row, Code}
use Rattle.code_generator.specs.Programs.{code_of}
use Rattle.valid_code.specs.ValidPieces.{AreSayable}
use Rattle.code_pieces.specs.WellFormed.{AreBelow, heads_said}

-- A file can say what a row says, and the heads of its loops are below this label.
abbrev pub SaysWords : ℕ → Piece → Type 0
SaysWords labels (Row l entries) = AreSayable entries × AreBelow labels (heads_said entries)
SaysWords labels p = ⊤

-- So it is of each row of a sequential program that breaks no rule, if its literals are words and bytes.
abbrev pub RowsAreSaid : Type 0
RowsAreSaid = (items : List ProgramItem) (c : Code) → IsSequentialProgram items → BreaksNoRule items
    → items_have_words items ≡ true → code_of items ≡ Some c → AllByRecursion (SaysWords c.labels) c.pieces
