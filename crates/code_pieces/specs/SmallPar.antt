-- What the module of a small PAR says, byte by byte.
use Rattle.std.specs.Prelude.{◌≡◌, ℕ, ℤ, pos, false, List, [], ◌∷◌, ◌++◌, Some, None}
use Rattle.prefix_decoder.specs.declared.function.Fun.TheVariants as fun
use Rattle.module_format.specs.declared.fact.Fact.TheVariants as facts
use Rattle.module_format.specs.declared.rows.Direction.{Direction}
use Rattle.module_format.specs.declared.rows.Direction.TheVariants.{In, Out}
use Rattle.module_format.specs.declared.rows.EndKind.{EndKind}
use Rattle.module_format.specs.declared.rows.EndKind.TheVariants.{FrameWord, Link}
use Rattle.module_format.specs.declared.rows.EndRow.{EndRow}
use Rattle.module_format.specs.declared.rows.Interval.{Interval}
use Rattle.module_format.specs.Rows.{Entry}
use Rattle.module_format.specs.Contents as contents
use Rattle.module_format.specs.Contents.{Contents, label_with, branch_with, par_with}
use Rattle.module_builder.specs.Layouts.{needed}
use Rattle.code_pieces.specs.declared.operations.TheConstants.{LOAD_BYTE, END_PROCESS, INPUT, OUTPUT, STOP_PROCESS}
use Rattle.code_pieces.specs.declared.operations.TheConstants.{LOAD_POINTER_TO_INSTRUCTION, MINIMUM_INTEGER}
use Rattle.code_pieces.specs.declared.piece.CodeContext.TheVariants.{Branch}
use Rattle.code_pieces.specs.declared.piece.RowEntry.{RowEntry}
use Rattle.code_pieces.specs.declared.piece.WordFact.TheVariants.{Between}
use Rattle.code_pieces.specs.Pars as pars
use Rattle.code_pieces.specs.Pars.{in_root}
use Rattle.code_pieces.specs.Pieces.{Piece, Direct, Distance, StartBranch, Row, Place, Within, Par, operates, loads}
use Rattle.code_pieces.specs.Pieces.{stores, points, constant}
use Rattle.code_pieces.specs.Laying.{apart, draft_code}
use Rattle.code_pieces.specs.LaidModule.{Arrangement, laid_module}

-- ---- the pieces

-- A byte is received in word 3 from a link and sent on a channel, and the other branch receives it in word 4. Then it
-- is sent on a link. The channel is in word 2. Labels 0, 2 and 4 are where distances are counted from.
abbrev pub starts : List Piece
starts =
    constant (pos 0) ∷ stores 3 ∷ constant (pos 0) ∷ stores 4 ∷ operates MINIMUM_INTEGER ∷ stores 2
    ∷ Distance 0 1 ∷ operates LOAD_POINTER_TO_INSTRUCTION ∷ Place 0 ∷ stores 0 ∷ constant (pos 3) ∷ stores 1
    ∷ Distance 2 3 ∷ points 8 ∷ StartBranch 3 (Some 1) ∷ Place 2
    ∷ Distance 4 5 ∷ points 14 ∷ StartBranch 5 None ∷ Place 4
    ∷ points 0 ∷ operates END_PROCESS ∷ []

abbrev pub between : ℕ → ℕ → ℕ → ℕ → RowEntry
between word span lo hi = record { word = word; span = span; fact = Between (pos lo) (pos hi) }

abbrev pub sends : List Piece
sends =
    Within (record { context = Branch 3; depth = pos 8 }) ∷ Row 3 (between 3 1 0 0 ∷ [])
    ∷ points 3 ∷ operates MINIMUM_INTEGER ∷ Direct fun.LoadNonLocalPointer (pos 4) ∷ constant (pos 1) ∷ operates INPUT
    ∷ points 3 ∷ operates LOAD_BYTE ∷ stores 3
    ∷ loads 3 ∷ stores 10 ∷ points 10 ∷ points 2 ∷ constant (pos 1) ∷ operates OUTPUT
    ∷ points 0 ∷ operates END_PROCESS ∷ []

abbrev pub receives : List Piece
receives =
    Within (record { context = Branch 5; depth = pos 14 }) ∷ Row 5 (between 4 1 0 0 ∷ [])
    ∷ points 4 ∷ points 2 ∷ constant (pos 1) ∷ operates INPUT ∷ points 4 ∷ operates LOAD_BYTE ∷ stores 4
    ∷ points 0 ∷ operates END_PROCESS ∷ []

abbrev pub goes_on : List Piece
goes_on =
    Within in_root ∷ Row 1 (between 3 1 0 255 ∷ between 4 1 0 255 ∷ [])
    ∷ loads 4 ∷ stores 5 ∷ points 5 ∷ operates MINIMUM_INTEGER ∷ constant (pos 1) ∷ operates OUTPUT
    ∷ operates STOP_PROCESS ∷ []

abbrev pub words : ℕ → ℕ → Interval
words lo hi = record { lo = pos lo; hi = pos hi }

abbrev pub end_of : EndKind → Direction → EndRow
end_of kind direction = record { kind = kind; direction = direction }

-- Each branch has the words at its workspace, those below it, and the word that it changes.
abbrev pub small_par : pars.Par
small_par = record {
  opener = in_root;
  successor = 1;
  channels = record { word = pos 2; length = 1 } ∷ [];
  branches =
      record {
        entry = 3;
        depth = pos 8;
        writes = words 3 4 ∷ words 5 11 ∷ [];
        reads = [];
        ends = end_of (FrameWord (pos 2)) Out ∷ end_of (Link 4) In ∷ [];
      }
      ∷ record {
        entry = 5;
        depth = pos 14;
        writes = words 4 5 ∷ words 11 16 ∷ [];
        reads = [];
        ends = end_of (FrameWord (pos 2)) In ∷ [];
      } ∷ [];
}

abbrev pub par_pieces : List Piece
par_pieces = starts ++ sends ++ receives ++ goes_on ++ Par small_par ∷ []

-- ---- what the module says

-- the bytes of each instruction
abbrev pub par_lengths : List ℕ
par_lengths =
    1 ∷ 1 ∷ 1 ∷ 1 ∷ 2 ∷ 1 ∷ 2 ∷ 2 ∷ 1 ∷ 1 ∷ 1 ∷ 1 ∷ 1 ∷ 1 ∷ 2 ∷ 1 ∷ 1 ∷ 1 ∷ 1 ∷ 2 ∷ 2 ∷ 1 ∷ 1 ∷ 1 ∷ 2 ∷ 1 ∷ 2 ∷ 2 ∷ 1
    ∷ 1 ∷ 2 ∷ 1 ∷ 1 ∷ 2 ∷ 1 ∷ 2 ∷ 2 ∷ 1 ∷ 1 ∷ 2 ∷ 1 ∷ 2 ∷ 2 ∷ 1 ∷ 1 ∷ 1 ∷ 1 ∷ 2 ∷ 1 ∷ 1 ∷ 2 ∷ []

abbrev pub par_bytes : List ℕ
par_bytes =
    0x40 ∷ 0xd3 ∷ 0x40 ∷ 0xd4 ∷ 0x24 ∷ 0xf2 ∷ 0xd2 ∷ 0x23 ∷ 0x41 ∷ 0x21 ∷ 0xfb ∷ 0xd0 ∷ 0x43 ∷ 0xd1 ∷ 0x46 ∷ 0x18
    ∷ 0xfd ∷ 0x21 ∷ 0x49 ∷ 0x1e ∷ 0xfd ∷ 0x10 ∷ 0xf3 ∷ 0x60 ∷ 0x1b ∷ 0x24 ∷ 0xf2 ∷ 0x54 ∷ 0x41 ∷ 0xf7 ∷ 0x60 ∷ 0x1b
    ∷ 0xf1 ∷ 0x60 ∷ 0xdb ∷ 0x60 ∷ 0x7b ∷ 0xd2 ∷ 0x12 ∷ 0x60 ∷ 0x1a ∷ 0x41 ∷ 0xfb ∷ 0x60 ∷ 0x18 ∷ 0xf3 ∷ 0x60 ∷ 0x16
    ∷ 0x60 ∷ 0x14 ∷ 0x41 ∷ 0xf7 ∷ 0x60 ∷ 0x16 ∷ 0xf1 ∷ 0x60 ∷ 0xd6 ∷ 0x60 ∷ 0x12 ∷ 0xf3 ∷ 0x74 ∷ 0xd5 ∷ 0x15 ∷ 0x24
    ∷ 0xf2 ∷ 0x41 ∷ 0xfb ∷ 0x21 ∷ 0xf5 ∷ []

-- label rows and the PAR row are in the order in which they come
abbrev pub par_arrangement : Arrangement
par_arrangement = record {
  lengths = par_lengths;
  rows = (23, 0) ∷ (46, 1) ∷ (60, 2) ∷ [];
  pars = (23, 0) ∷ [];
  table_rows = [];
}

-- output link 0 and input link 0 take a byte
abbrev pub link_bytes : List ℕ
link_bytes = 1 ∷ 0 ∷ 0 ∷ 0 ∷ 1 ∷ 0 ∷ 0 ∷ 0 ∷ []

-- A module without constants, procedures and tables: its code, its words, its budget, where it is finished, the lengths
-- of messages on links, and its rows.
abbrev pub small_module : List ℕ → ℕ → ℕ → ℕ → List ℕ → List contents.Label → List contents.Par → Contents
small_module code data_words budget finish lengths labels pars = record {
  code = code;
  constants = [];
  data_words = data_words;
  base = 3;
  budget = budget;
  finish = finish;
  lengths = lengths;
  has_long_operations = false;
  procedures = [];
  labels = labels;
  pars = pars;
  table_rows = [];
}

abbrev pub row_at : ℕ → ℕ → ℤ → ℕ → List Entry → contents.Label
row_at offset context depth number entries =
    label_with offset context depth number (record { a = facts.Unknown; b = facts.Unknown; c = facts.Unknown }) entries

abbrev pub range : ℕ → ℕ → ℕ → ℕ → Entry
range word span lo hi = record { word = pos word; span = span; fact = facts.Number (pos lo) (pos hi) }

abbrev pub par_row : contents.Par
par_row =
    par_with 0 (pos 0) (pos 0) 60 (record { word = pos 2; length = 1 } ∷ [])
    (branch_with 23 (pos 8) (words 3 4 ∷ words 5 11 ∷ []) [] [] []
    (end_of (FrameWord (pos 2)) Out ∷ end_of (Link 4) In ∷ [])
    ∷ branch_with 46 (pos 14) (words 4 5 ∷ words 11 16 ∷ []) [] [] [] (end_of (FrameWord (pos 2)) In ∷ [])
    ∷ [])

abbrev pub par_module : Contents
par_module =
    small_module par_bytes 19 69 69 link_bytes
    (row_at 23 1 (pos 8) 23 (range 3 1 0 0 ∷ []) ∷ row_at 46 2 (pos 14) 14 (range 4 1 0 0 ∷ [])
    ∷ row_at 60 0 (pos 0) 9 (range 3 2 0 255 ∷ []) ∷ [])
    (par_row ∷ [])

-- The rows are apart already, these are the bytes that instructions need, and the module says what it should: of
-- its 69 bytes each is executed once.
pub record SmallParIsLaid : Type 0 where
  pub apart : apart par_pieces ≡ par_pieces
  pub lengths : needed (draft_code par_pieces 6) par_lengths ≡ par_lengths
  pub is : laid_module par_pieces 6 link_bytes par_arrangement ≡ par_module
