-- The pieces of sequential programs are valid, and so are the modules that say them.
use Rattle.std.specs.Prelude.{◌≡◌, ◌≤◌, ⊤, ℕ, true, List, length, Some, FitsSigned}
use Rattle.std.specs.Int.{w32}
use Rattle.std.specs.List.{AllByRecursion}
use Rattle.module_format.specs.declared.limits.TheConstants.{MAX_DATA_WORDS}
use Rattle.module_format.specs.Keeping.{Keeps}
use Rattle.occam_parser.specs.Blocks.{ProgramItem}
use Rattle.occam_parser.specs.Words.{items_have_words}
use Rattle.program_meaning.specs.Sequential.{IsSequentialProgram}
use Rattle.usage_checks.specs.ItemRules.{BreaksNoRule}
use Rattle.code_pieces.specs.Pieces.{Piece, TableAddress, Code}
use Rattle.code_pieces.specs.Laying.{apart, words_taken}
use Rattle.code_pieces.specs.LaidModule.{Arrangement, IsArrangement, laid_module}
use Rattle.code_generator.specs.Programs.{code_of}
use Rattle.valid_code.specs.ValidPieces.{AreValid}
use Rattle.valid_code.specs.ValidModules.{AreWithin}

-- the values of a table are words
abbrev pub SaysTables : Piece → Type 0
SaysTables (TableAddress values) = AllByRecursion (FitsSigned w32) values
SaysTables p = ⊤

-- The pieces of a sequential program that breaks no rule are valid once its rows are kept apart, if its literals are
-- words and bytes and the values of its tables are words, and if it takes no more words than a file has.
abbrev pub ProgramsAreValid : Type 0
ProgramsAreValid = (items : List ProgramItem) (c : Code) → IsSequentialProgram items → BreaksNoRule items
    → items_have_words items ≡ true → code_of items ≡ Some c → AllByRecursion SaysTables c.pieces
    → words_taken c.pieces ≤ MAX_DATA_WORDS → AreValid (apart c.pieces) c.labels

-- So its module for eight links keeps the rules of the format, if no number is above a limit.
abbrev pub SequentialModulesAreValid : Type 0
SequentialModulesAreValid = (items : List ProgramItem) (c : Code) → IsSequentialProgram items → BreaksNoRule items
    → items_have_words items ≡ true → code_of items ≡ Some c → AllByRecursion SaysTables c.pieces
    → (links : List ℕ) (a : Arrangement) → length links ≡ 8
    → IsArrangement (apart c.pieces) c.labels a → AreWithin (apart c.pieces) c.labels links a
    → Keeps (laid_module (apart c.pieces) c.labels links a)
