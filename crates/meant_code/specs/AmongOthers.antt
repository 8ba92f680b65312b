-- Pieces of a program among others: where each leads, which words are taken, and rows kept apart part by part.
use Rattle.std.specs.Prelude.{◌≡◌, ◌≤◌, ⊤, ℕ, Bool, true, List, [], ◌∷◌, ◌++◌, Some}
use Rattle.std.specs.List.{AllByRecursion}
use Rattle.occam_parser.specs.Blocks.{ProgramItem}
use Rattle.code_pieces.specs.Pieces.{Piece, Direct, Code}
use Rattle.code_pieces.specs.Laying.{apart, apart_from, at_row_behind, word_above, words_taken}
use Rattle.placed_code.specs.LaidCode.{labels_in, IsPart}
use Rattle.code_generator.specs.Programs.{code_of}
use Rattle.meant_code.specs.Labels.{Leads}
use Rattle.meant_code.specs.OwnCode.{OperandFits}

-- A piece of a program jumps to a label that is placed after it. The end of a turn goes to one that is placed before.
abbrev pub PiecesLead : Type 0
PiecesLead = (items : List ProgramItem) (c : Code) → code_of items ≡ Some c
    → (done : List Piece) (p : Piece) (later : List Piece) → apart c.pieces ≡ done ++ p ∷ later
    → Leads (labels_in done) (labels_in later) p

-- ---- words

-- a piece names no word from this one on
abbrev pub NamesBelow : ℕ → Piece → Type 0
NamesBelow n (Direct f e) = word_above f e ≤ n
NamesBelow n p = ⊤

-- The words that pieces name are among those that code takes.
abbrev pub WordsAreTaken : Type 0
WordsAreTaken = (ps : List Piece) → AllByRecursion (NamesBelow (words_taken ps)) ps

-- With rows kept apart it takes as many.
abbrev pub ApartTakesNoMore : Type 0
ApartTakesNoMore = (ps : List Piece) → words_taken (apart ps) ≡ words_taken ps

-- ---- rows kept apart

-- whether a row may be right before what is after pieces
abbrev pub at_row_after : Bool → List Piece → Bool
at_row_after at_row [] = at_row
at_row_after at_row (p ∷ ps) = at_row_after (at_row_behind p at_row) ps

-- The rows of pieces are kept apart one part after the other.
abbrev pub PartsAreApart : Type 0
PartsAreApart = (at_row : Bool) (ps qs : List Piece)
    → apart_from at_row (ps ++ qs) ≡ apart_from at_row ps ++ apart_from (at_row_after at_row ps) qs

-- So a part of a program's pieces is one of those with rows kept apart, at the workspace of the root.
abbrev pub PartsStayParts : Type 0
PartsStayParts = (items : List ProgramItem) (c : Code) → code_of items ≡ Some c
    → (before part rest : List Piece) → c.pieces ≡ before ++ part ++ rest → AllByRecursion OperandFits part
    → IsPart (apart c.pieces) (apart before) (apart_from (at_row_after true before) part) 0
