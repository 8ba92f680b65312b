-- The drafts of valid pieces are valid.
use Rattle.std.specs.Prelude.{◌≡◌, ℕ, true, List, length, Some}
use Rattle.std.specs.List.{AllByRecursion}
use Rattle.module_builder.specs.declared.draft.Draft.{Draft}
use Rattle.module_builder.specs.Assembled.{IsInvalid}
use Rattle.occam_parser.specs.Blocks.{ProgramItem}
use Rattle.occam_parser.specs.Words.{items_have_words}
use Rattle.program_meaning.specs.Sequential.{IsSequentialProgram}
use Rattle.usage_checks.specs.ItemRules.{BreaksNoRule}
use Rattle.code_pieces.specs.Pieces.{Piece, Code}
use Rattle.code_pieces.specs.Laying.{apart, sizes_of}
use Rattle.code_pieces.specs.Laid.{IsLaidOut}
use Rattle.code_pieces.specs.Needed.{NeedsAreWithin}
use Rattle.code_generator.specs.Programs.{code_of}
use Rattle.valid_code.specs.ValidPieces.{AreValid}
use Rattle.valid_code.specs.ValidPrograms.{SaysTables}

-- The draft that valid pieces for eight links are laid out as is not invalid, if no number of bytes that they need is
-- above the limit.
abbrev pub DraftsAreValid : Type 0
DraftsAreValid = (ps : List Piece) (labels : ℕ) (links : List ℕ) (d : Draft) (out : IsLaidOut ps labels links d)
    → AreValid ps labels → length links ≡ 8 → NeedsAreWithin ps (sizes_of ps out.lengths) → IsInvalid d → ⊥

-- Nor is that of the pieces of a sequential program that breaks no rule, once its rows are kept apart, if its literals
-- are words and bytes and the values of its tables are words.
abbrev pub SequentialDraftsAreValid : Type 0
SequentialDraftsAreValid = (items : List ProgramItem) (c : Code) (links : List ℕ) (d : Draft)
    (out : IsLaidOut (apart c.pieces) c.labels links d) → IsSequentialProgram items → BreaksNoRule items
    → items_have_words items ≡ true → code_of items ≡ Some c → AllByRecursion SaysTables c.pieces → length links ≡ 8
    → NeedsAreWithin (apart c.pieces) (sizes_of (apart c.pieces) out.lengths) → IsInvalid d → ⊥
