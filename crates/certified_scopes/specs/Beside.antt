-- The words of a scope's names, one after the other. So each scalar has a word that no other name has.
use Rattle.std.specs.Prelude.{◌≡◌, ℕ, ◌+◌, ◌≤◌, List, [], ◌∷◌, length, Option, Some, slice_get}
use Rattle.word_arithmetic.specs.Range.{Ends}
use Rattle.occam_parser.specs.declared.tree.ValueType.{ValueType}
use Rattle.scalar_ranges.specs.declared.scope.ScalarKind.{ScalarKind}
use Rattle.scalar_ranges.specs.Entries.{Meaning, Scalar, Array, Entry, meaning_in}
use Rattle.line_pieces.specs.Homes.{Home, Word, Block, home_of, words_for}
use Rattle.meant_lines.specs.Carrying.{Rise}
use Rattle.certified_lines.specs.NarrowedScopes.{AreBeside}

-- the first word of a name of whose words something is known, or else this one
abbrev pub first_word : Option Home → Meaning → ℕ → ℕ
first_word (Some (Word w)) (Scalar kind type range) top = w
first_word (Some (Word w)) (Array kind type (Some size) range) top = w
first_word (Some (Block w head)) (Scalar kind type range) top = w
first_word h m top = top

-- the first word behind those
abbrev pub last_end : Option Home → Meaning → ℕ
last_end (Some (Word w)) (Scalar kind type range) = w + 1
last_end (Some (Word w)) (Array kind type (Some size) range) = w + words_for type size
last_end (Some (Block w head)) (Scalar kind type range) = w + 2
last_end h m = 0

-- The words of each name end where those of the next one inwards begin, or before. Those of the innermost one end
-- before this word. Nothing is known of the words of channels, so these do not count.
abbrev pub AreInTurn : List Home → List Entry → ℕ → Type 0
AreInTurn hs [] top = Unit {0}
AreInTurn hs (e ∷ es) top =
    (last_end (slice_get hs (length es)) e.meaning ≤ top)
    × AreInTurn hs es (first_word (slice_get hs (length es)) e.meaning top)

-- so with a further word that is free
abbrev pub MoreWordsAreInTurn : Type 0
MoreWordsAreInTurn = (hs : List Home) (es : List Entry) (top more : ℕ) → top ≤ more → AreInTurn hs es top
    → AreInTurn hs es more

-- They are in turn where homes rise.
abbrev pub RisingHomesAreInTurn : Type 0
RisingHomesAreInTurn = (hs : List Home) (es : List Entry) (top : ℕ) → Rise hs es top → AreInTurn hs es top

-- So no other name has the word of a scalar.
abbrev pub ScalarsAreBeside : Type 0
ScalarsAreBeside = (hs : List Home) (es : List Entry) (top : ℕ) (name : List ℕ) (w : ℕ) (kind : ScalarKind)
    (type : ValueType) (range : Ends) → AreInTurn hs es top → meaning_in name es ≡ Some (Scalar kind type range)
    → home_of hs es name ≡ Some (Word w) → AreBeside hs w name es
