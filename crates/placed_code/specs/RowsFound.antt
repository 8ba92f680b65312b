-- The label rows of a module of pieces: in the order of the pieces that say them, and found at their labels.
use Rattle.std.specs.Prelude.{◌≡◌, ℕ, suc, ◌<◌, ◌≤◌, List, ◌∷◌, ◌++◌, map, Some, None}
use Rattle.module_format.specs.Contents.{Label, label_at}
use Rattle.module_builder.specs.Layouts.{offset, places}
use Rattle.code_pieces.specs.declared.piece.RowEntry.{RowEntry}
use Rattle.code_pieces.specs.Pars.{in_root}
use Rattle.code_pieces.specs.Pieces.{Piece, Row}
use Rattle.code_pieces.specs.DraftedRows.{said_row}
use Rattle.code_pieces.specs.Laid.{needs_in}
use Rattle.code_pieces.specs.LaidModule.{Arrangement, Says, context_number, laid_row, laid_module}
use Rattle.code_pieces.specs.Laying.{SaidRow, said_rows, pars_of, draft_code}
use Rattle.placed_code.specs.LaidCode.{laid_code, item_count, workspace_after, LabelsArePlacedOnce}

-- the row of the module that says a row of the pieces
abbrev pub row_of : List Piece → ℕ → Arrangement → SaidRow → Label
row_of ps labels a row =
    laid_row (context_number (pars_of ps) a.pars) (places (draft_code ps labels) a.lengths) row

-- one of the pieces says what holds at this label, after these pieces
pub record SaysRow (ps before : List Piece) (l : ℕ) (entries : List RowEntry) : Type 0 where
  pub rest : List Piece
  pub whole : ps ≡ before ++ Row l entries ∷ rest

-- the rows are in the order of their pieces
abbrev pub RowsKeepTheirOrder : Type 0
RowsKeepTheirOrder = (ps : List Piece) (labels : ℕ) (links bytes : List ℕ) (says : Says ps labels links bytes)
    → LabelsArePlacedOnce ps labels
    → (laid_module ps labels links says.arrangement).labels
    ≡ map (row_of ps labels says.arrangement) (said_rows (needs_in ps says.arrangement.lengths) ps)

-- At its label each one is found, with what its piece says.
abbrev pub RowsAreFound : Type 0
RowsAreFound = (ps : List Piece) (labels : ℕ) (links bytes : List ℕ) (says : Says ps labels links bytes)
    (depth : ℕ) (before : List Piece) (l : ℕ) (entries : List RowEntry) → LabelsArePlacedOnce ps labels
    → SaysRow ps before l entries
    → label_at (laid_module ps labels links says.arrangement)
    ((laid_code ps labels says.arrangement.lengths depth).labels l)
    ≡ Some (row_of ps labels says.arrangement
    (said_row (workspace_after before in_root) (needs_in ps says.arrangement.lengths) l entries))

-- where no such label is, no row is found
abbrev pub NoRowIsElsewhere : Type 0
NoRowIsElsewhere = (ps : List Piece) (labels : ℕ) (links bytes : List ℕ) (says : Says ps labels links bytes)
    (depth at : ℕ) → LabelsArePlacedOnce ps labels
    → ((before : List Piece) (l : ℕ) (entries : List RowEntry) → SaysRow ps before l entries
    → (laid_code ps labels says.arrangement.lengths depth).labels l ≡ at → ⊥)
    → label_at (laid_module ps labels links says.arrangement) at ≡ None

-- So none is found where an item begins and no such piece is right before it.
abbrev pub NoRowIsBeforeOthers : Type 0
NoRowIsBeforeOthers = (ps : List Piece) (labels : ℕ) (links bytes : List ℕ) (says : Says ps labels links bytes)
    (number : ℕ) → LabelsArePlacedOnce ps labels → number ≤ item_count ps
    → ((before : List Piece) (l : ℕ) (entries : List RowEntry) → SaysRow ps before l entries
    → item_count before ≡ number → ⊥)
    → label_at (laid_module ps labels links says.arrangement) (offset says.arrangement.lengths number) ≡ None

-- And none is found inside an item.
abbrev pub NoRowIsInside : Type 0
NoRowIsInside = (ps : List Piece) (labels : ℕ) (links bytes : List ℕ) (says : Says ps labels links bytes)
    (number at : ℕ) → LabelsArePlacedOnce ps labels → offset says.arrangement.lengths number < at
    → at < offset says.arrangement.lengths (suc number)
    → label_at (laid_module ps labels links says.arrangement) at ≡ None
