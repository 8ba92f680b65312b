-- What the module of a small alternation says, byte by byte.
use Rattle.std.specs.Prelude.{◌≡◌, ℕ, pos, List, [], ◌∷◌, ◌++◌}
use Rattle.word_arithmetic.specs.Word.{least_word, greatest_word}
use Rattle.prefix_decoder.specs.declared.function.Fun.TheVariants as fun
use Rattle.module_format.specs.declared.fact.Fact.TheVariants as facts
use Rattle.module_format.specs.Contents.{Contents}
use Rattle.module_builder.specs.Layouts.{needed}
use Rattle.code_pieces.specs.declared.operations.TheConstants.{ALTERNATE, ALTERNATION_WAIT, ENABLE_CHANNEL, ENABLE_SKIP}
use Rattle.code_pieces.specs.declared.operations.TheConstants.{DISABLE_CHANNEL, DISABLE_SKIP, INPUT, MINIMUM_INTEGER}
use Rattle.code_pieces.specs.declared.operations.TheConstants.{STOP_PROCESS}
use Rattle.code_pieces.specs.declared.piece.WordFact.TheVariants.{Between}
use Rattle.code_pieces.specs.Pieces.{Piece, Direct, Jump, Distance, Select, Row, Place, operates, stores, points}
use Rattle.code_pieces.specs.Pieces.{constant}
use Rattle.code_pieces.specs.Laying.{apart, draft_code}
use Rattle.code_pieces.specs.LaidModule.{Arrangement, laid_module}
use Rattle.code_pieces.specs.SmallPar.{between, row_at, range, small_module}

-- pushes the address of input link 0
abbrev pub input_link : List Piece
input_link = operates MINIMUM_INTEGER ∷ Direct fun.LoadNonLocalPointer (pos 4) ∷ []

-- A number is received in word 2 from a link, or nothing is done. Label 0 is where distances are counted from; labels 1
-- and 2 are the guards'.
abbrev pub alternation_pieces : List Piece
alternation_pieces =
    constant (pos 0) ∷ stores 2 ∷ operates ALTERNATE ∷ input_link
    ++ constant (pos 1) ∷ operates ENABLE_CHANNEL ∷ constant (pos 1) ∷ operates ENABLE_SKIP ∷ operates ALTERNATION_WAIT
    ∷ input_link
    ++ constant (pos 1) ∷ Distance 0 1 ∷ operates DISABLE_CHANNEL
    ∷ constant (pos 1) ∷ Distance 0 2 ∷ operates DISABLE_SKIP ∷ Select (1 ∷ 2 ∷ []) ∷ Place 0
    ∷ Row 1 (between 2 1 0 0 ∷ []) ∷ points 2 ∷ input_link
    ++ constant (pos 4) ∷ operates INPUT ∷ Jump 3
    ∷ Row 2 (between 2 1 0 0 ∷ []) ∷ Jump 3
    ∷ Row 3 (record { word = 2; span = 1; fact = Between least_word greatest_word } ∷ []) ∷ operates STOP_PROCESS ∷ []

-- the bytes of each instruction
abbrev pub alternation_lengths : List ℕ
alternation_lengths =
    1 ∷ 1 ∷ 2 ∷ 2 ∷ 1 ∷ 1 ∷ 2 ∷ 1 ∷ 2 ∷ 2 ∷ 2 ∷ 1 ∷ 1 ∷ 1 ∷ 2 ∷ 1 ∷ 1 ∷ 2 ∷ 2 ∷ 1 ∷ 2 ∷ 1 ∷ 1 ∷ 1 ∷ 1 ∷ 1 ∷ 2 ∷ []

abbrev pub alternation_arrangement : Arrangement
alternation_arrangement = record {
  lengths = alternation_lengths;
  rows = (28, 0) ∷ (35, 1) ∷ (36, 2) ∷ [];
  pars = [];
  table_rows = [];
}

-- input link 0 takes a word
abbrev pub link_words : List ℕ
link_words = 0 ∷ 0 ∷ 0 ∷ 0 ∷ 4 ∷ 0 ∷ 0 ∷ 0 ∷ []

abbrev pub alternation_bytes : List ℕ
alternation_bytes =
    0x40 ∷ 0xd2 ∷ 0x24 ∷ 0xf3 ∷ 0x24 ∷ 0xf2 ∷ 0x54 ∷ 0x41 ∷ 0x24 ∷ 0xf8 ∷ 0x41 ∷ 0x24 ∷ 0xf9 ∷ 0x24 ∷ 0xf4 ∷ 0x24
    ∷ 0xf2 ∷ 0x54 ∷ 0x41 ∷ 0x40 ∷ 0x22 ∷ 0xff ∷ 0x41 ∷ 0x47 ∷ 0x23 ∷ 0xf0 ∷ 0x24 ∷ 0xf5 ∷ 0x12 ∷ 0x24 ∷ 0xf2 ∷ 0x54
    ∷ 0x44 ∷ 0xf7 ∷ 0x01 ∷ 0x00 ∷ 0x21 ∷ 0xf5 ∷ []

abbrev pub alternation_module : Contents
alternation_module =
    small_module alternation_bytes 6 37 38 link_words
    (row_at 28 0 (pos 0) 9 (range 2 1 0 0 ∷ []) ∷ row_at 35 0 (pos 0) 3 (range 2 1 0 0 ∷ [])
    ∷ row_at 36 0 (pos 0) 2 (record { word = pos 2; span = 1; fact = facts.Number least_word greatest_word } ∷ [])
    ∷ [])
    []

-- The rows are apart already, these are the bytes that instructions need, and the module says what it should: of
-- its 38 bytes all but one are executed if the number is received.
pub record SmallAlternationIsLaid : Type 0 where
  pub apart : apart alternation_pieces ≡ alternation_pieces
  pub lengths : needed (draft_code alternation_pieces 4) alternation_lengths ≡ alternation_lengths
  pub is : laid_module alternation_pieces 4 link_words alternation_arrangement ≡ alternation_module
