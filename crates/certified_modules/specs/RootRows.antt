-- A module of pieces without PARs: all its code is in the root, and its rows say what their pieces say.
use Rattle.std.specs.Prelude.{◌≡◌, ℕ, ◌+◌, ◌-◌, ◌*◌, ◌≤◌, List, [], Ok}
use Rattle.module_format.specs.Contents.{Label}
use Rattle.states.specs.State.{label_state}
use Rattle.states.specs.Below.{below}
use Rattle.code_pieces.specs.declared.piece.RowEntry.{RowEntry}
use Rattle.code_pieces.specs.Pars.{in_root}
use Rattle.code_pieces.specs.Pieces.{Piece}
use Rattle.code_pieces.specs.Laid.{needs_in}
use Rattle.code_pieces.specs.LaidModule.{Arrangement, laid_module}
use Rattle.code_pieces.specs.Laying.{offset_in, tables_before}
use Rattle.code_pieces.specs.DraftedRows.{said_row}
use Rattle.placed_code.specs.RowsFound.{row_of}
use Rattle.placed_code.specs.NumbersCover.{row_number, loop_weight}
use Rattle.certified_lines.specs.StraightRules.{Setting, Told, state_of}
use Rattle.certified_modules.specs.RowsSay.{Implies, Enters}
use Rattle.certified_modules.specs.Passing.{Passage, told_by}

-- all code of the module, in the root
abbrev pub root_setting : List Piece → ℕ → List ℕ → Arrangement → Setting
root_setting ps labels links a = record {
  contents = laid_module ps labels links a;
  context = 0;
  depth = 0;
  tables = λ values. offset_in (tables_before [] ps) values;
}

-- what a turn of the loop with its head at each label costs, where items have these lengths
abbrev pub weights_of : List Piece → List ℕ → ℕ → ℕ
weights_of ps lengths head = loop_weight ps lengths head

-- the root, with that
abbrev pub root_passage : List Piece → ℕ → List ℕ → Arrangement → Passage
root_passage ps labels links a = record {
  setting = root_setting ps labels links a;
  weights = weights_of ps a.lengths;
}

-- the row that the module has at a label in the root
abbrev pub root_row : List Piece → ℕ → Arrangement → ℕ → List RowEntry → Label
root_row ps labels a l entries = row_of ps labels a (said_row in_root (needs_in ps a.lengths) l entries)

-- It says what its piece says, with the number of its label.
abbrev pub RowsSayTheirPieces : Type 0
RowsSayTheirPieces = (ps : List Piece) (labels : ℕ) (links : List ℕ) (a : Arrangement) (l : ℕ)
    (entries : List RowEntry)
    → label_state (root_row ps labels a l entries)
    ≡ state_of (root_setting ps labels links a) (told_by (root_passage ps labels links a) entries)
    (row_number ps a.lengths l)

-- What implies a row may go on there, for the number of the row.
abbrev pub ImpliedRowsAreBelow : Type 0
ImpliedRowsAreBelow = (ps : List Piece) (labels : ℕ) (links : List ℕ) (a : Arrangement) (l : ℕ)
    (entries : List RowEntry) (s : Told) (number : ℕ) → Implies (weights_of ps a.lengths) s.frame entries
    → row_number ps a.lengths l ≤ number
    → below (state_of (root_setting ps labels links a) s number) (root_row ps labels a l entries)
    ≡ Ok (row_number ps a.lengths l)

-- What enters a loop may go on at its head, for the weight of each turn but the first too.
abbrev pub EnteredRowsAreBelow : Type 0
EnteredRowsAreBelow = (ps : List Piece) (labels : ℕ) (links : List ℕ) (a : Arrangement) (head count : ℕ)
    (entries : List RowEntry) (s : Told) (number : ℕ) → Enters (weights_of ps a.lengths) s.frame head count entries
    → row_number ps a.lengths head + loop_weight ps a.lengths head * (count - 1) ≤ number
    → below (state_of (root_setting ps labels links a) s number) (root_row ps labels a head entries)
    ≡ Ok (row_number ps a.lengths head + loop_weight ps a.lengths head * (count - 1))
