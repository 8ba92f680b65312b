-- Each sequential program has code.
use Rattle.std.specs.Prelude.{◌≡◌, List, Some}
use Rattle.occam_parser.specs.Blocks.{ProgramItem}
use Rattle.program_meaning.specs.Sequential.{IsSequentialProgram}
use Rattle.code_pieces.specs.Pieces.{Code}
use Rattle.code_generator.specs.Programs.{code_of}

-- A program whose last item is a procedure without PAR, ALT and instances has code.
abbrev pub SequentialProgramsHaveCode : Type 0
SequentialProgramsHaveCode =
    (items : List ProgramItem) → IsSequentialProgram items → (c : Code) × (code_of items ≡ Some c)
