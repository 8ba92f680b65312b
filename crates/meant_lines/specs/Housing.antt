-- Declarations and loops give names homes that do not overlap.
use Rattle.std.specs.Prelude.{ℕ, ◌≤◌, List}
use Rattle.module_format.specs.declared.limits.TheConstants.{MAX_DATA_WORDS}
use Rattle.occam_parser.specs.Lines.{Declaration}
use Rattle.scalar_ranges.specs.Entries.{Meaning, Entry}
use Rattle.program_uses.specs.Declaring.{add, add_declaration}
use Rattle.line_pieces.specs.Homes.{Home}
use Rattle.line_pieces.specs.Declarations.{Frame, declared, with_block}
use Rattle.meant_lines.specs.Carrying.{RiseWith, HomesRise}

-- Where homes rise, they rise with those of the declared names, if the frame is not too large.
abbrev pub DeclaredHomesRise : Type 0
DeclaredHomesRise = (f : Frame) (es : List Entry) (d : Declaration) → HomesRise f es
    → (declared es d f).top ≤ MAX_DATA_WORDS → HomesRise (declared es d f) (add_declaration d es)

-- so with the block of a loop
abbrev pub BlocksRise : Type 0
BlocksRise = (f : Frame) (es : List Entry) (name : List ℕ) (k : Meaning) (head : ℕ) → HomesRise f es
    → (with_block head f).top ≤ MAX_DATA_WORDS → HomesRise (with_block head f) (add name k es)

-- and with a further word that is free
abbrev pub MoreWordsRise : Type 0
MoreWordsRise = (words : Meaning → ℕ) (hs : List Home) (es : List Entry) (top more : ℕ) → top ≤ more
    → RiseWith words hs es top → RiseWith words hs es more
