-- Pieces of one process that make a valid module: what is asked of rows, of tables, and of all pieces together.
use Rattle.std.specs.Prelude.{◌≡◌, ◌≤◌, ◌<◌, ◌^◌, ⊤, ℕ, ◌+◌, ◌&&◌, ℤ, Bool, true, false, List, [], ◌∷◌, ◌++◌, FitsSigned}
use Rattle.std.specs.Int.{w32}
use Rattle.std.specs.List.{AllByRecursion}
use Rattle.prefix_decoder.specs.declared.function.Fun.{Fun}
use Rattle.module_format.specs.Facts.{IsLoop}
use Rattle.module_format.specs.Order.{IsInterval}
use Rattle.code_pieces.specs.declared.piece.RowEntry.{RowEntry}
use Rattle.code_pieces.specs.declared.piece.WordFact.{WordFact}
use Rattle.code_pieces.specs.declared.piece.WordFact.TheVariants.{Between, Turning}
use Rattle.code_pieces.specs.Pieces.{Piece, Direct, TableAddress, Row, Within, Par}
use Rattle.code_pieces.specs.Laying.{is_row, at_row_behind, words_taken}
use Rattle.placed_code.specs.LaidCode.{LabelsArePlacedOnce}

-- ---- rows

-- entries one after the other, each of some words, from the one up to the other
abbrev pub InTurn : ℕ → List RowEntry → ℕ → Type 0
InTurn low [] top = low ≤ top
InTurn low (e ∷ es) top = (low ≤ e.word) × (1 ≤ e.span) × InTurn (e.word + e.span) es top

-- A file can say this of some words: their numbers lie between two words, of which the first is not the greater one; or
-- they are the block of a loop, whatever a turn of it costs.
abbrev pub IsSayable : ℕ → WordFact → Type 0
IsSayable span (Between lo hi) = IsInterval lo hi
IsSayable span (Turning head base count) =
    (span ≡ 2) × ((weight : ℕ) → weight < 2 ^ 64 → IsLoop base count weight)

abbrev pub AreSayable : List RowEntry → Type 0
AreSayable es = AllByRecursion (λ e. IsSayable e.span e.fact) es

-- of words below this one
pub record IsValidRow (words : ℕ) (entries : List RowEntry) : Type 0 where
  pub turn : InTurn 0 entries words
  pub facts : AreSayable entries

-- ---- pieces

-- A row is of words below the end of the frame, and the values of a table are words. There is no PAR, and no workspace
-- but that of the root.
abbrev pub IsValidPiece : ℕ → Piece → Type 0
IsValidPiece words (Row l entries) = IsValidRow words entries
IsValidPiece words (TableAddress values) = AllByRecursion (FitsSigned w32) values
IsValidPiece words (Within workspace) = ⊥
IsValidPiece words (Par par) = ⊥
IsValidPiece words p = ⊤

-- No row is at the code's start, and no two are at one place, where a row may have been right before.
abbrev pub AreApart : Bool → List Piece → Type 0
AreApart at_row [] = ⊤
AreApart at_row (p ∷ ps) = ((at_row && is_row p) ≡ false) × AreApart (at_row_behind p at_row) ps

-- the last piece is an instruction
pub record EndInInstruction (ps : List Piece) : Type 0 where
  pub front : List Piece
  pub fun : Fun
  pub operand : ℤ
  pub whole : ps ≡ front ++ Direct fun operand ∷ []

-- Each piece is valid by itself, each label is placed once, rows are apart, and code ends in an instruction.
pub record AreValid (ps : List Piece) (labels : ℕ) : Type 0 where
  pub each : AllByRecursion (IsValidPiece (words_taken ps)) ps
  pub once : LabelsArePlacedOnce ps labels
  pub apart : AreApart true ps
  pub ends : EndInInstruction ps
