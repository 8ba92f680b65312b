-- When a sequential program is too much to write.
use Rattle.std.specs.Prelude.{◌≡◌, ⊤, ℕ, true, false, List, Option, Some, None}
use Rattle.occam_parser.specs.Blocks.{ProgramItem}
use Rattle.program_work.specs.Readings.{capped}
use Rattle.program_work.specs.Programs.{is_too_much_to_write, names_in}
use Rattle.code_pieces.specs.Pieces.{Code}
use Rattle.line_pieces.specs.Limits.{is_too_much}
use Rattle.code_generator.specs.Programs.{code_of}

-- This code, if there is some, is more than is written where a program declares this number of names.
abbrev pub IsMuchCode : ℕ → Option Code → Type 0
IsMuchCode names None = ⊤
IsMuchCode names (Some c) = is_too_much names c.pieces ≡ true

-- Unless the sums over the tree are too much already, the code is.
abbrev pub IsTooMuchToWrite : List ProgramItem → Type 0
IsTooMuchToWrite items = is_too_much_to_write items ≡ false → IsMuchCode (capped (names_in items)) (code_of items)
