-- The drafts of pieces are whole: each label that an instruction, the header or a row refers to is placed.
use Rattle.std.specs.Prelude.{◌≡◌, ℕ, true, List, [], Some}
use Rattle.module_builder.specs.declared.draft.Draft.{Draft}
use Rattle.module_builder.specs.Drafts.{IsComplete}
use Rattle.module_builder.specs.Whole.{IsWhole}
use Rattle.occam_parser.specs.Blocks.{ProgramItem}
use Rattle.occam_parser.specs.Words.{items_have_words}
use Rattle.program_meaning.specs.Sequential.{IsSequentialProgram}
use Rattle.usage_checks.specs.ItemRules.{BreaksNoRule}
use Rattle.code_pieces.specs.Pieces.{Piece, Code}
use Rattle.code_pieces.specs.Laying.{apart, draft_code, pars_of}
use Rattle.code_pieces.specs.Laid.{IsLaidOut}
use Rattle.code_generator.specs.Programs.{code_of}
use Rattle.code_pieces.specs.WellFormed.{AreNamed}

-- The code of such pieces is complete.
abbrev pub CodeIsComplete : Type 0
CodeIsComplete = (ps : List Piece) (labels : ℕ) → AreNamed labels ps → IsComplete (draft_code ps labels)

-- If there are no PARs among them, the draft that they are laid out as is whole.
abbrev pub DraftsAreWhole : Type 0
DraftsAreWhole = (ps : List Piece) (labels : ℕ) (links : List ℕ) (d : Draft) → IsLaidOut ps labels links d
    → pars_of ps ≡ [] → AreNamed labels ps → IsWhole d

-- So is that of the pieces of a sequential program that breaks no rule, once its rows are kept apart, if its literals
-- are words and bytes.
abbrev pub SequentialDraftsAreWhole : Type 0
SequentialDraftsAreWhole = (items : List ProgramItem) (c : Code) (links : List ℕ) (d : Draft)
    → IsLaidOut (apart c.pieces) c.labels links d → IsSequentialProgram items → BreaksNoRule items
    → items_have_words items ≡ true → code_of items ≡ Some c → IsWhole d
