-- What the code of a small program is: its pieces, and what follows from them, byte by byte.
use Rattle.std.specs.Prelude.{◌≡◌, ℕ, pos, negsuc, List, [], ◌∷◌, Some, None}
use Rattle.prefix_decoder.specs.declared.function.Fun.TheVariants as fun
use Rattle.word_arithmetic.specs.Word.{least_word, greatest_word}
use Rattle.word_arithmetic.specs.declared.compare.Comparison.TheVariants as comparison
use Rattle.module_format.specs.declared.fact.Fact.TheVariants as facts
use Rattle.module_builder.specs.Layouts.{needed}
use Rattle.module_builder.specs.Spelling.{spelled}
use Rattle.occam_parser.specs.declared.tree.ValueType.TheVariants as value_type
use Rattle.occam_parser.specs.declared.tree.ArithmeticPair.TheVariants as arithmetic_pair
use Rattle.occam_parser.specs.declared.tree.PairOperator.TheVariants as pair
use Rattle.occam_parser.specs.declared.tree.FormalKind.TheVariants as formal_kind
use Rattle.occam_parser.specs.Expressions.{Paired, Named}
use Rattle.occam_parser.specs.Lines.{Instance}
use Rattle.occam_parser.specs.Blocks.{Process, Does, Chosen, ProgramItem, GlobalProcedure}
use Rattle.program_meaning.specs.SmallPrograms.{x, y, s, i, number, named, does, assigns, sums, or_adds, echoes, skip}
use Rattle.program_meaning.specs.SmallPrograms.{sets_element, computes, sends_a}
use Rattle.code_pieces.specs.declared.piece.WordFact.TheVariants.{Between, Turning}
use Rattle.code_pieces.specs.declared.piece.RowEntry.{RowEntry}
use Rattle.code_pieces.specs.declared.operations.TheConstants.{MINIMUM_INTEGER, INPUT, OUTPUT, GREATER, SUM}
use Rattle.code_pieces.specs.declared.operations.TheConstants.{STOP_PROCESS, LOAD_BYTE, MOVE}
use Rattle.code_pieces.specs.Pars.{in_root}
use Rattle.code_pieces.specs.Pieces.{Piece, Direct, Jump, JumpUnless, LoopBack, Row, operates, loads, stores, points}
use Rattle.code_pieces.specs.Pieces.{constant}
use Rattle.code_generator.specs.Processes.{under_if}
use Rattle.code_generator.specs.Programs.{code_of}
use Rattle.code_pieces.specs.Numbers.{Needs, needs_of}
use Rattle.code_pieces.specs.Laying.{apart, draft_code, sizes_of, Said, SaidRow, said_rows, words_taken}

-- ---- four numbers are added up

abbrev pub unknown_word : ℕ → RowEntry
unknown_word word = record { word = word; span = 1; fact = Between least_word greatest_word }

-- the loop's block
abbrev pub four_turns : RowEntry
four_turns = record { word = 4; span = 2; fact = Turning 0 (pos 1) 4 }

-- both variables, and the loop
abbrev pub in_the_loop : List RowEntry
in_the_loop = unknown_word 2 ∷ unknown_word 3 ∷ four_turns ∷ []

-- where x is 100 at most
abbrev pub where_small : List RowEntry
where_small =
    record { word = 2; span = 1; fact = Between least_word (pos 100) } ∷ unknown_word 3 ∷ four_turns ∷ []

abbrev pub sums_pieces : List Piece
sums_pieces =
    constant (pos 0) ∷ stores 2 ∷ constant (pos 0) ∷ stores 3 ∷ constant (pos 0) ∷ stores 3
    ∷ constant (pos 1) ∷ stores 4 ∷ constant (pos 4) ∷ stores 5 ∷ Row 0 in_the_loop
    ∷ points 2 ∷ operates MINIMUM_INTEGER ∷ Direct fun.LoadNonLocalPointer (pos 4) ∷ constant (pos 4) ∷ operates INPUT
    ∷ loads 2 ∷ constant (pos 100) ∷ operates GREATER ∷ JumpUnless 3
    ∷ loads 3 ∷ loads 4 ∷ operates SUM ∷ stores 3 ∷ Jump 2 ∷ Row 3 where_small
    ∷ loads 3 ∷ loads 2 ∷ operates SUM ∷ stores 3 ∷ Row 2 in_the_loop
    ∷ points 4 ∷ LoopBack 0 1 ∷ Row 1 (unknown_word 2 ∷ unknown_word 3 ∷ [])
    ∷ points 3 ∷ operates MINIMUM_INTEGER ∷ constant (pos 4) ∷ operates OUTPUT
    ∷ operates STOP_PROCESS ∷ []

-- the bytes of each instruction
abbrev pub sums_lengths : List ℕ
sums_lengths =
    1 ∷ 1 ∷ 1 ∷ 1 ∷ 1 ∷ 1 ∷ 1 ∷ 1 ∷ 1 ∷ 1 ∷ 1 ∷ 2 ∷ 1 ∷ 1 ∷ 1 ∷ 1 ∷ 2 ∷ 1 ∷ 1 ∷ 1 ∷ 1 ∷ 2 ∷ 1 ∷ 1 ∷ 1 ∷ 1 ∷ 2 ∷ 1
    ∷ 1 ∷ 2 ∷ 2 ∷ 1 ∷ 2 ∷ 1 ∷ 1 ∷ 2 ∷ []

abbrev pub sums_bytes : List ℕ
sums_bytes =
    0x40 ∷ 0xd2 ∷ 0x40 ∷ 0xd3 ∷ 0x40 ∷ 0xd3 ∷ 0x41 ∷ 0xd4 ∷ 0x44 ∷ 0xd5 ∷ 0x12 ∷ 0x24 ∷ 0xf2 ∷ 0x54 ∷ 0x44 ∷ 0xf7
    ∷ 0x72 ∷ 0x26 ∷ 0x44 ∷ 0xf9 ∷ 0xa6 ∷ 0x73 ∷ 0x74 ∷ 0x25 ∷ 0xf2 ∷ 0xd3 ∷ 0x05 ∷ 0x73 ∷ 0x72 ∷ 0x25 ∷ 0xf2 ∷ 0xd3
    ∷ 0x14 ∷ 0x21 ∷ 0x4b ∷ 0x22 ∷ 0xf1 ∷ 0x13 ∷ 0x24 ∷ 0xf2 ∷ 0x44 ∷ 0xfb ∷ 0x21 ∷ 0xf5 ∷ []

abbrev pub said_unknown : ℕ → ℕ → Said
said_unknown word span = record { word = word; span = span; fact = facts.Number least_word greatest_word }

abbrev pub said_loop : Said
said_loop = record { word = 4; span = 2; fact = facts.Loop (pos 1) 4 22 }

abbrev pub sums_rows : List SaidRow
sums_rows =
    record { label = 0; workspace = in_root; number = 29; entries = said_unknown 2 2 ∷ said_loop ∷ [] }
    ∷ record {
      label = 3;
      workspace = in_root;
      number = 17;
      entries =
          record { word = 2; span = 1; fact = facts.Number least_word (pos 100) } ∷ said_unknown 3 1 ∷ said_loop ∷ [];
    }
    ∷ record { label = 2; workspace = in_root; number = 12; entries = said_unknown 2 2 ∷ said_loop ∷ [] }
    ∷ record { label = 1; workspace = in_root; number = 7; entries = said_unknown 2 2 ∷ [] } ∷ []

abbrev pub sums_needs : Needs
sums_needs = needs_of sums_pieces (sizes_of sums_pieces sums_lengths)

-- Four numbers are received and added up, with the number of the turn in place of one above 100. The code is 44 bytes,
-- of which a run executes 105 at most, and takes 6 words of the frame.
pub record SumsHaveCode : Type 0 where
  pub pieces : code_of (sums or_adds) ≡ Some (record { pieces = sums_pieces; labels = 4 })
  pub apart : apart sums_pieces ≡ sums_pieces
  pub lengths : needed (draft_code sums_pieces 4) sums_lengths ≡ sums_lengths
  pub bytes : spelled (draft_code sums_pieces 4) sums_lengths ≡ sums_bytes
  pub rows : said_rows sums_needs sums_pieces ≡ sums_rows
  pub budget : sums_needs.need ≡ 105
  pub words : words_taken sums_pieces ≡ 6

-- ---- a byte is sent back

-- The word of a BYTE that came in is stored again, so that its byte is all that is in it.
abbrev pub echo_pieces : List Piece
echo_pieces =
    constant (pos 0) ∷ stores 2
    ∷ points 2 ∷ operates MINIMUM_INTEGER ∷ Direct fun.LoadNonLocalPointer (pos 4) ∷ constant (pos 1) ∷ operates INPUT
    ∷ points 2 ∷ operates LOAD_BYTE ∷ stores 2
    ∷ points 2 ∷ operates MINIMUM_INTEGER ∷ constant (pos 1) ∷ operates OUTPUT
    ∷ operates STOP_PROCESS ∷ []

-- ---- an element is stored

-- An array of two words is declared, its second element set to 5, and its first one assigned to x.
abbrev pub element_pieces : List Piece
element_pieces =
    constant (pos 0) ∷ stores 2
    ∷ points 2 ∷ operates MINIMUM_INTEGER ∷ Direct fun.LoadNonLocalPointer (pos 4) ∷ constant (pos 4) ∷ operates INPUT
    ∷ constant (pos 0) ∷ stores 5 ∷ points 5 ∷ points 3 ∷ constant (pos 4) ∷ operates MOVE
    ∷ points 3 ∷ points 4 ∷ constant (pos 4) ∷ operates MOVE
    ∷ constant (pos 5) ∷ stores 5 ∷ points 5 ∷ points 4 ∷ constant (pos 4) ∷ operates MOVE
    ∷ loads 3 ∷ stores 2
    ∷ points 2 ∷ operates MINIMUM_INTEGER ∷ constant (pos 4) ∷ operates OUTPUT
    ∷ operates STOP_PROCESS ∷ []

-- ---- a choice under a replicator

-- IF i = 5 FOR 2
--   x = i
--     x := 1
abbrev pub picks : Process
picks = Does 0 (under_if (record { name = i; base = number (pos 5); count = number (pos 2) })
    (Chosen 0 (Paired (pair.Comparison comparison.Equal) (Named x) (Named i)) (assigns x (number (pos 1)))))

-- x is compared with 5 and with 6. If it is neither, the process stops; so x is 1 after the choices.
abbrev pub picks_pieces : List Piece
picks_pieces =
    constant (pos 0) ∷ stores 2
    ∷ points 2 ∷ operates MINIMUM_INTEGER ∷ Direct fun.LoadNonLocalPointer (pos 4) ∷ constant (pos 4) ∷ operates INPUT
    ∷ loads 2 ∷ Direct fun.EqualsConstant (pos 5) ∷ JumpUnless 1
    ∷ constant (pos 1) ∷ stores 2 ∷ Jump 0 ∷ Row 1 (unknown_word 2 ∷ [])
    ∷ loads 2 ∷ Direct fun.EqualsConstant (pos 6) ∷ JumpUnless 2
    ∷ constant (pos 1) ∷ stores 2 ∷ Jump 0 ∷ Row 2 (unknown_word 2 ∷ []) ∷ operates STOP_PROCESS
    ∷ Row 0 (record { word = 2; span = 1; fact = Between (pos 1) (pos 1) } ∷ [])
    ∷ points 2 ∷ operates MINIMUM_INTEGER ∷ constant (pos 4) ∷ operates OUTPUT
    ∷ operates STOP_PROCESS ∷ []

-- ---- a procedure is called

-- PROC s(VAL INT y, INT x)
--   x := y
abbrev pub copies : ProgramItem
copies = GlobalProcedure (record {
  line = 0;
  head = record {
    name = s;
    formals =
        record { kind = formal_kind.Value; size = None; value_type = value_type.Int; name = y }
        ∷ record { kind = formal_kind.Variable; size = None; value_type = value_type.Int; name = x } ∷ [];
  };
  body = assigns x (named y);
})

-- what is received is replaced, by s(3, x)
abbrev pub calls : List ProgramItem
calls = copies ∷ echoes value_type.Int (does (Instance s (number (pos 3) ∷ named x ∷ [])))

-- The value has a word of its own, and the variable is moved to; the row knows of both no more than their type.
abbrev pub calls_pieces : List Piece
calls_pieces =
    constant (pos 0) ∷ stores 2
    ∷ points 2 ∷ operates MINIMUM_INTEGER ∷ Direct fun.LoadNonLocalPointer (pos 4) ∷ constant (pos 4) ∷ operates INPUT
    ∷ constant (pos 3) ∷ stores 3 ∷ Row 0 (unknown_word 2 ∷ unknown_word 3 ∷ [])
    ∷ loads 3 ∷ stores 4 ∷ points 4 ∷ points 2 ∷ constant (pos 4) ∷ operates MOVE
    ∷ points 2 ∷ operates MINIMUM_INTEGER ∷ constant (pos 4) ∷ operates OUTPUT
    ∷ operates STOP_PROCESS ∷ []

-- A byte is received and sent; an array is set to 0 and stored into by moves; (-7) / 2 is one constant; a choice
-- under a replicator is there once for each index; a loop without turns has no code; and a procedure is copied to
-- where it is called.
pub record PiecesFollow : Type 0 where
  pub echo : code_of (echoes value_type.Byte skip) ≡ Some (record { pieces = echo_pieces; labels = 0 })
  pub element :
      code_of (echoes value_type.Int (sets_element (pos 1))) ≡ Some (record { pieces = element_pieces; labels = 0 })
  pub quotient : code_of (computes arithmetic_pair.Divide) ≡ Some (record {
    pieces =
        constant (negsuc 2) ∷ stores 2 ∷ points 2 ∷ operates MINIMUM_INTEGER ∷ constant (pos 4) ∷ operates OUTPUT
        ∷ operates STOP_PROCESS ∷ [];
    labels = 0;
  })
  pub picked : code_of (echoes value_type.Int picks) ≡ Some (record { pieces = picks_pieces; labels = 3 })
  pub called : code_of calls ≡ Some (record { pieces = calls_pieces; labels = 1 })
  pub no_turn : code_of (sends_a 0) ≡ Some (record { pieces = operates STOP_PROCESS ∷ []; labels = 0 })
