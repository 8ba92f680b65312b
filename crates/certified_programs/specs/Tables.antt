-- No table is empty whose address the code of a program makes.
use Rattle.std.specs.Prelude.{◌≡◌, true, List, Some}
use Rattle.std.specs.List.{AllByRecursion}
use Rattle.occam_parser.specs.Blocks.{ProgramItem}
use Rattle.occam_parser.specs.Words.{items_have_words}
use Rattle.program_meaning.specs.Sequential.{IsSequentialProgram}
use Rattle.usage_checks.specs.ItemRules.{BreaksNoRule}
use Rattle.code_pieces.specs.Pieces.{Code}
use Rattle.code_generator.specs.Programs.{code_of}
use Rattle.certified_modules.specs.Certifying.{HasValues}

-- So it is of each sequential program that breaks no rule, since no text that it declares is empty.
abbrev pub NoTableIsEmpty : Type 0
NoTableIsEmpty = (items : List ProgramItem) (code : Code) → BreaksNoRule items → IsSequentialProgram items
    → items_have_words items ≡ true → code_of items ≡ Some code → AllByRecursion HasValues code.pieces
