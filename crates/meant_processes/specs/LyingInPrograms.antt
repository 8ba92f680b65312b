-- Where the pieces of a part of a program lie in the code of its module.
use Rattle.std.specs.Prelude.{◌≡◌, ℕ, true, List, ◌++◌, Some}
use Rattle.std.specs.List.{AllByRecursion}
use Rattle.module_builder.specs.Layouts.{offset}
use Rattle.occam_parser.specs.Blocks.{ProgramItem}
use Rattle.code_pieces.specs.Pieces.{Piece, Code}
use Rattle.code_pieces.specs.Laying.{apart, apart_from}
use Rattle.code_pieces.specs.LaidModule.{Says}
use Rattle.code_generator.specs.Programs.{code_of}
use Rattle.placed_code.specs.LaidCode.{laid_code, item_count}
use Rattle.meant_code.specs.AmongOthers.{at_row_after}
use Rattle.meant_code.specs.OwnCode.{OperandFits}
use Rattle.meant_processes.specs.Lying.{LieApart}

-- Where a module says the pieces of a program with rows kept apart, each part of them lies in its code, in the root, from
-- the end of the items before it to the end of its own, if its constants are words.
abbrev pub PartsLieApart : Type 0
PartsLieApart = (items : List ProgramItem) (c : Code) → code_of items ≡ Some c → (links bytes : List ℕ)
    (says : Says (apart c.pieces) c.labels links bytes) (before part rest : List Piece)
    → c.pieces ≡ before ++ part ++ rest → AllByRecursion OperandFits part
    → LieApart (laid_code (apart c.pieces) c.labels says.arrangement.lengths 0) (at_row_after true before)
    (offset says.arrangement.lengths (item_count (apart before))) part
    (offset says.arrangement.lengths (item_count (apart before ++ apart_from (at_row_after true before) part)))
