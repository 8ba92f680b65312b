-- The number of a label is the same from any piece before it on.
use Rattle.std.specs.Prelude.{◌≡◌, ◌≤◌, ℕ, List, ◌++◌, length, drop, Some}
use Rattle.occam_parser.specs.Blocks.{ProgramItem}
use Rattle.code_pieces.specs.Pieces.{Piece, Code}
use Rattle.code_pieces.specs.Numbers.{number_at, needs_of}
use Rattle.code_pieces.specs.Laying.{apart}
use Rattle.placed_code.specs.LaidCode.{labels_in}
use Rattle.code_generator.specs.Programs.{code_of}
use Rattle.meant_code.specs.Labels.{times_in}

-- Of a label that is placed in the last pieces of a program, the number in all of them is that in the last ones, where
-- pieces have these sizes.
abbrev pub NumbersStay : Type 0
NumbersStay = (items : List ProgramItem) (c : Code) → code_of items ≡ Some c
    → (done later : List Piece) → apart c.pieces ≡ done ++ later
    → (sizes : List ℕ) → length (apart c.pieces) ≤ length sizes
    → (l : ℕ) → 1 ≤ times_in l (labels_in later)
    → number_at l (needs_of (apart c.pieces) sizes).labels
    ≡ number_at l (needs_of later (drop (length done) sizes)).labels
