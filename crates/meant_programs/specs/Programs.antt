-- A module of a program's code runs as the program means.
use Rattle.std.specs.Prelude.{◌≡◌, true, ℕ, List, Some}
use Rattle.std.specs.List.{AllByRecursion}
use Rattle.occam_parser.specs.Blocks.{ProgramItem}
use Rattle.occam_parser.specs.Words.{items_have_words}
use Rattle.program_meaning.specs.Sequential.{IsSequentialProgram}
use Rattle.usage_checks.specs.ItemRules.{BreaksNoRule}
use Rattle.verifier.specs.Headline.{RunsWell}
use Rattle.code_pieces.specs.Pieces.{Code}
use Rattle.code_pieces.specs.Laying.{apart}
use Rattle.code_pieces.specs.LaidModule.{Says, laid_module}
use Rattle.code_generator.specs.Programs.{code_of}
use Rattle.meant_code.specs.OwnCode.{OperandFits}
use Rattle.meant_runs.specs.Meant.{RunsAsMeant}

-- So it is of each sequential program that breaks no rule, if the operands of its pieces are words and the module is
-- certified, so that it runs well.
abbrev pub ProgramsRunAsMeant : Type 0
ProgramsRunAsMeant = (items : List ProgramItem) (code : Code) (links bytes : List ℕ) → BreaksNoRule items
    → IsSequentialProgram items → items_have_words items ≡ true → code_of items ≡ Some code
    → (says : Says (apart code.pieces) code.labels links bytes) → AllByRecursion OperandFits code.pieces
    → ∥ RunsWell (laid_module (apart code.pieces) code.labels links says.arrangement) ∥₁
    → RunsAsMeant (laid_module (apart code.pieces) code.labels links says.arrangement) items
