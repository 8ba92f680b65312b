-- What the code leaves known that sets the words of declared variables to 0.
use Rattle.std.specs.Prelude.{ℕ, ◌+◌, ◌<◌, ◌≤◌, pos, List}
use Rattle.word_arithmetic.specs.Range.{Ends, constant, full}
use Rattle.code_pieces.specs.Pieces.{Piece}
use Rattle.line_pieces.specs.Declarations.{zero_scalar, zero_array}
use Rattle.certified_lines.specs.StraightRules.{Setting, Told, FallOn}
use Rattle.certified_lines.specs.Scopes.{Scene, IsNumber}
use Rattle.certified_lines.specs.Telling.{StayBefore, AreAllowed, IsFree}
use Rattle.certified_actions.specs.Declaring.{MayUse}

-- Pieces fall to where each of so many words is a number in this range, and words before these are known as before.
pub record Zeroed (g : Setting) (ps : List Piece) (word count : ℕ) (r : Ends) (before : Told) : Type 0 where
  pub after : Told
  pub falls : FallOn g ps before after
  pub there : (n : ℕ) → n < count → IsNumber after.frame (word + n) r
  pub stay : StayBefore word before.frame after.frame

-- a scalar is 0
abbrev pub ScalarsAreZero : Type 0
ScalarsAreZero = (g : Scene) (word : ℕ) (before : Told) → IsFree word → AreAllowed g (zero_scalar word)
    → Zeroed g.setting (zero_scalar word) word 1 (constant (pos 0)) before

-- the words of an array are any numbers, so that what is stored by a subscript changes nothing that is known
abbrev pub ArraysAreFull : Type 0
ArraysAreFull = (g : Scene) (word count : ℕ) (before : Told) → 1 ≤ count → MayUse g.setting word (word + count)
    → AreAllowed g (zero_array word count) → Zeroed g.setting (zero_array word count) word count full before
