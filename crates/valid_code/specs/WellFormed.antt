-- The pieces of sequential programs are well formed, and their operands are words.
use Rattle.std.specs.Prelude.{◌≡◌, ◌≤◌, ⊤, ℕ, List, Some, true}
use Rattle.std.specs.List.{AllByRecursion}
use Rattle.module_format.specs.declared.limits.TheConstants.{MAX_DATA_WORDS}
use Rattle.occam_parser.specs.Blocks.{ProgramItem}
use Rattle.occam_parser.specs.Words.{items_have_words}
use Rattle.program_meaning.specs.Sequential.{IsSequentialProgram}
use Rattle.usage_checks.specs.ItemRules.{BreaksNoRule}
use Rattle.code_pieces.specs.Pieces.{Piece, Row, Code}
use Rattle.code_pieces.specs.Laying.{apart, words_taken}
use Rattle.code_generator.specs.Programs.{code_of}
use Rattle.placed_code.specs.LaidCode.{StaysAt}
use Rattle.meant_code.specs.OwnCode.{OperandFits}
use Rattle.code_pieces.specs.WellFormed.{AreBelow, AreWellFormed, heads_said}

-- the heads of the loops that a row says are there
abbrev pub HeadsAreBelow : ℕ → Piece → Type 0
HeadsAreBelow labels (Row l entries) = AreBelow labels (heads_said entries)
HeadsAreBelow labels p = ⊤

-- The pieces of a sequential program that breaks no rule are well formed once its rows are kept apart, if its literals
-- are words and bytes, and if it takes no more words than a file has.
abbrev pub ProgramsAreWellFormed : Type 0
ProgramsAreWellFormed = (items : List ProgramItem) (c : Code) → IsSequentialProgram items → BreaksNoRule items
    → items_have_words items ≡ true → code_of items ≡ Some c → words_taken c.pieces ≤ MAX_DATA_WORDS
    → AreWellFormed (apart c.pieces) c.labels

-- Their operands are words, if the constants of its code are.
abbrev pub OperandsAreWords : Type 0
OperandsAreWords = (items : List ProgramItem) (c : Code) → code_of items ≡ Some c
    → AllByRecursion OperandFits c.pieces → AllByRecursion (StaysAt 0) (apart c.pieces)
