-- The words of declared variables are set to 0.
use Rattle.std.specs.Prelude.{◌≡◌, ℕ, ◌+◌, ◌<◌, ◌≤◌, List, Some}
use Rattle.machine_state.specs.Memory.{Memory, byte_at}
use Rattle.code_pieces.specs.Pieces.{Piece}
use Rattle.line_pieces.specs.Declarations.{zero_scalar, zero_array}
use Rattle.placed_code.specs.StraightPieces.{Held, LeadOn, word_place}
use Rattle.meant_lines.specs.Words.{ChangesWithin}
use Rattle.meant_lines.specs.Carrying.{Ground, HasFrame}

-- all bytes of these words are 0
abbrev pub AreZero : Memory → (word count : ℕ) → Type 0
AreZero m word count =
    (place : ℕ) → word_place word ≤ place → place < word_place (word + count) → byte_at m place ≡ Some 0

-- From what is held before, pieces lead to where these words are 0. Words before them have not changed.
pub record Zeroed (g : Ground) (ps : List Piece) (word count : ℕ) (before : Held) : Type 0 where
  pub after : Held
  pub leads : LeadOn g.footing ps before after
  pub zeros : AreZero after.memory word count
  pub changes : ChangesWithin word g.words before.memory after.memory

abbrev pub ScalarsAreZeroed : Type 0
ScalarsAreZeroed = (g : Ground) (word : ℕ) (h : Held) → HasFrame g h.memory → word < g.words
    → Zeroed g (zero_scalar word) word 1 h

-- The word after an array is one of the frame too.
abbrev pub ArraysAreZeroed : Type 0
ArraysAreZeroed = (g : Ground) (word count : ℕ) (h : Held) → HasFrame g h.memory → 1 ≤ count
    → word + count < g.words → Zeroed g (zero_array word count) word count h
