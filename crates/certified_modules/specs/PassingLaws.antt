-- That pieces pass which are kept apart, and where more labels are further on.
use Rattle.std.specs.Prelude.{ℕ, List, Option, Some}
use Rattle.code_pieces.specs.declared.piece.RowEntry.{RowEntry}
use Rattle.code_pieces.specs.Pieces.{Piece}
use Rattle.code_pieces.specs.Laying.{apart}
use Rattle.certified_lines.specs.StraightRules.{Told}
use Rattle.certified_modules.specs.Passing.{Passage, OpenLabel, IsOpen, PassOn}

-- each of these labels is one of the others
abbrev pub AreOpen : List OpenLabel → List OpenLabel → Type 0
AreOpen opened others = (l : ℕ) (entries : List RowEntry) → IsOpen opened l entries → IsOpen others l entries

-- Pieces pass where more labels are further on.
abbrev pub MoreLabelsMayBeOpen : Type 0
MoreLabelsMayBeOpen = (g : Passage) (opened others : List OpenLabel) (s t : Option Told) (ps : List Piece)
    → AreOpen opened others → PassOn g opened s ps t → PassOn g others s ps t

-- Where something falls into pieces that pass, they pass once their rows are kept apart.
abbrev pub PiecesPassApart : Type 0
PiecesPassApart = (g : Passage) (opened : List OpenLabel) (s : Told) (t : Option Told) (ps : List Piece)
    → PassOn g opened (Some s) ps t → PassOn g opened (Some s) (apart ps) t
