-- The pieces of sequential programs are not refused, and so they are made a module.
use Rattle.std.specs.Prelude.{◌≡◌, ℕ, true, List, length, Some}
use Rattle.std.specs.List.{AllByRecursion}
use Rattle.occam_parser.specs.Blocks.{ProgramItem}
use Rattle.occam_parser.specs.Words.{items_have_words}
use Rattle.program_meaning.specs.Sequential.{IsSequentialProgram}
use Rattle.usage_checks.specs.ItemRules.{BreaksNoRule}
use Rattle.code_pieces.specs.Pieces.{Code}
use Rattle.code_pieces.specs.Laying.{apart}
use Rattle.code_generator.specs.Programs.{code_of}
use Rattle.valid_code.specs.ValidPrograms.{SaysTables}
use Rattle.code_pieces.specs.WellFormed.{AreInvalid, AreRefused}

-- The pieces of a sequential program that breaks no rule are not refused, for eight links, if its literals are words
-- and bytes and the values of its tables are words.
abbrev pub ProgramsAreNotRefused : Type 0
ProgramsAreNotRefused = (items : List ProgramItem) (c : Code) (links : List ℕ) → IsSequentialProgram items
    → BreaksNoRule items → items_have_words items ≡ true → code_of items ≡ Some c
    → AllByRecursion SaysTables c.pieces → length links ≡ 8 → AreRefused (apart c.pieces) c.labels links → ⊥

-- Nor are they invalid, since they are well formed, too.
abbrev pub ProgramsAreMade : Type 0
ProgramsAreMade = (items : List ProgramItem) (c : Code) (links : List ℕ) → IsSequentialProgram items
    → BreaksNoRule items → items_have_words items ≡ true → code_of items ≡ Some c
    → AllByRecursion SaysTables c.pieces → length links ≡ 8 → AreInvalid (apart c.pieces) c.labels links → ⊥
