-- What a scope says of words stays known where those that are numbers stay so, and both words of each loop.
use Rattle.std.specs.Prelude.{◌≡◌, ℕ, ◌+◌, ◌<◌, pos, List, Option, Some, None}
use Rattle.word_arithmetic.specs.Range.{Ends}
use Rattle.states.specs.declared.known.Loop.{Loop}
use Rattle.states.specs.declared.known.WordFact.TheVariants.{Index, Count}
use Rattle.states.specs.State.{Facts}
use Rattle.occam_parser.specs.declared.tree.ValueType.{ValueType}
use Rattle.scalar_ranges.specs.Entries.{Meaning, Scalar, Array, Entry}
use Rattle.code_pieces.specs.Pieces.{Piece}
use Rattle.line_pieces.specs.Homes.{Home, Word, Block, words_for}
use Rattle.certified_lines.specs.StraightRules.{Told, FallOn}
use Rattle.certified_lines.specs.Scopes.{Scene, IsNumber, HoldsScope, IsScope}

-- ---- the words of names

-- this holds of the words of a scalar
abbrev pub ScalarWords : (ℕ → Type 0) → Home → Type 0
ScalarWords P (Word w) = P w
ScalarWords P (Block w head) = P w × P (w + 1)
ScalarWords P h = Unit {0}

-- and of those of an array
abbrev pub ArrayWords : (ℕ → Type 0) → Home → ValueType → Option ℕ → Type 0
ArrayWords P (Word w) type (Some size) = (n : ℕ) → n < words_for type size → P (w + n)
ArrayWords P h type size = Unit {0}

-- this holds of each word of which a scope says something for a name
abbrev pub NameWords : (ℕ → Type 0) → Home → Meaning → Type 0
NameWords P h (Scalar kind type range) = ScalarWords P h
NameWords P h (Array kind type size range) = ArrayWords P h type size
NameWords P h m = Unit {0}

-- of a home that may not be there
abbrev pub WordsThere : (ℕ → Type 0) → Option Home → Meaning → Type 0
WordsThere P None m = Unit {0}
WordsThere P (Some h) m = NameWords P h m

-- ---- what stays

-- Words of which this holds that are numbers are known as before, and so are both words of a loop.
pub record NumbersStay (P : ℕ → Type 0) (old new : Facts) : Type 0 where
  pub alone : (k : ℕ) (r : Ends) → P k → IsNumber old k r → IsNumber new k r
  pub loops : (k : ℕ) (i c : Loop) → P k → P (k + 1) → old (pos k) ≡ Index i → old (pos (k + 1)) ≡ Count c
      → (new (pos k) ≡ Index i) × (new (pos (k + 1)) ≡ Count c)

-- so it is of words before this one
abbrev pub NumbersStayBefore : (top : ℕ) → Facts → Facts → Type 0
NumbersStayBefore top old new = NumbersStay (λ k. k < top) old new

-- then what a scope says of words stays known
abbrev pub KeptNumbersHold : Type 0
KeptNumbersHold = (g : Scene) (top : ℕ) (es : List Entry) (old new : Facts) → IsScope g top es
    → NumbersStayBefore top old new → HoldsScope g es old → HoldsScope g es new

-- ---- what code leaves

-- From what is told before, pieces fall to where of the words of a scope exactly that is known which the scope says.
-- Its homes end before this word.
pub record FallsTo (g : Scene) (top : ℕ) (es : List Entry) (ps : List Piece) (before : Told) : Type 0 where
  pub after : Told
  pub falls : FallOn g.setting ps before after
  pub holds : HoldsScope g es after.frame
  pub scope : IsScope g top es
