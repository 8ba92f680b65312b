-- What is known between statements: of the words of each name of a scope exactly what the scope says of the name.
use Rattle.std.specs.Prelude.{◌≡◌, ℕ, ◌+◌, ◌*◌, ◌<◌, ◌≤◌, ℤ, pos, ◌+ℤ◌, ◌-ℤ◌, List, [], ◌∷◌, length, Option, Some, None}
use Rattle.std.specs.Prelude.{slice_get, FitsSigned}
use Rattle.std.specs.Int.{w32}
use Rattle.word_arithmetic.specs.Range.{Ends, IsRange, full}
use Rattle.module_format.specs.declared.limits.TheConstants.{MAX_DATA_WORDS, MAX_CONSTANTS}
use Rattle.states.specs.declared.known.Loop.{Loop as CountedLoop}
use Rattle.states.specs.declared.known.WordFact.TheVariants.{Alone, Index, Count}
use Rattle.states.specs.State.{Facts}
use Rattle.rulings.specs.Reach.{constant_range}
use Rattle.local_rules.specs.WordRules.{number_in}
use Rattle.occam_parser.specs.declared.tree.ValueType.{ValueType}
use Rattle.scalar_ranges.specs.declared.scope.ArrayKind.TheVariants as arrays
use Rattle.scalar_ranges.specs.Entries.{Meaning, Constant, Scalar, Array, Channel, Channels, Procedure, Entry}
use Rattle.scalar_ranges.specs.Entries.{type_range}
use Rattle.code_pieces.specs.Pieces.{Piece}
use Rattle.placed_code.specs.TablesInMemory.{ReadsTable}
use Rattle.line_pieces.specs.Homes.{Home, Word, Block, Table, count_in, words_for}
use Rattle.certified_lines.specs.StraightRules.{Setting}
use Rattle.certified_lines.specs.Instructions.{MayRead}

-- The setting of code, the homes of names from the outermost one on, what a turn of the loop with its head at a label
-- costs, and the pieces of all code.
pub record Scene : Type 0 where
  pub setting : Setting
  pub homes : List Home
  pub weights : ℕ → ℕ
  pub pieces : List Piece

-- This holds of the home and the meaning of each name of a scope, hidden or not. A name is at its number.
abbrev pub EachNameHas : (Option Home → Meaning → Type 0) → List Home → List Entry → Type 0
EachNameHas P hs [] = Unit {0}
EachNameHas P hs (e ∷ es) = P (slice_get hs (length es)) e.meaning × EachNameHas P hs es

-- ---- what is known of words

-- a word is a number in this range, by itself
abbrev pub IsNumber : Facts → ℕ → Ends → Type 0
IsNumber f word r = f (pos word) ≡ Alone (number_in r)

-- the loop of an index, as rows say it
abbrev pub loop_of : Scene → (head : ℕ) → Ends → CountedLoop
loop_of g head r = record { base = r.lo; count = count_in r; weight = g.weights head }

-- Of a scalar its range is known, and of an index its loop.
abbrev pub IsScalarKnown : Scene → Facts → Home → Ends → Type 0
IsScalarKnown g f (Word w) range = IsNumber f w range
IsScalarKnown g f (Block w head) range =
    (f (pos w) ≡ Index (loop_of g head range)) × (f (pos (w + 1)) ≡ Count (loop_of g head range))
IsScalarKnown g f h range = Unit {0}

-- Of the words of an array it is known that they are numbers.
abbrev pub IsArrayKnown : Facts → Home → ValueType → Option ℕ → Type 0
IsArrayKnown f (Word w) type (Some size) = (n : ℕ) → n < words_for type size → IsNumber f (w + n) full
IsArrayKnown f h type size = Unit {0}

abbrev pub AreKnown : Scene → Facts → Home → Meaning → Type 0
AreKnown g f h (Scalar kind type range) = IsScalarKnown g f h range
AreKnown g f h (Array kind type size range) = IsArrayKnown f h type size
AreKnown g f h m = Unit {0}

abbrev pub AreKnownThere : Scene → Facts → Option Home → Meaning → Type 0
AreKnownThere g f None m = ⊥
AreKnownThere g f (Some h) m = AreKnown g f h m

-- so of each name of the scope
abbrev pub HoldsScope : Scene → List Entry → Facts → Type 0
HoldsScope g es f = EachNameHas (AreKnownThere g f) g.homes es

-- ---- what a scope has whatever is known of words

-- each of these words may be read
abbrev pub MayReadAll : Setting → (word count : ℕ) → Type 0
MayReadAll g word count = (n : ℕ) → n < count → MayRead g (word + n)

-- a range of as many numbers as turns are counted
abbrev pub HasTurns : Ends → Type 0
HasTurns r = pos (count_in r) ≡ (r.hi -ℤ r.lo) +ℤ pos 1

-- A table lies in the constants, and its row says this range of any of its items.
pub record HasTable (g : Setting) (values : List ℤ) (r : Ends) : Type 0 where
  pub inside : g.tables values + 4 * length values ≤ length g.contents.constants
  pub few : length g.contents.constants ≤ MAX_CONSTANTS
  pub says : (first last : ℕ) → first ≤ last → last < length values
      → constant_range g.contents (pos (g.tables values + 4 * first)) (pos (g.tables values + 4 * last + 4)) ≡ r

-- The words of a name lie before this one and may be read, and what is said of it are words. A table is there if one of
-- the pieces reads it.
abbrev pub IsHoused : Scene → (top : ℕ) → Home → Meaning → Type 0
IsHoused g top h (Constant type (Some v)) = FitsSigned w32 v
IsHoused g top h (Channel type) = Unit {0}
IsHoused g top h (Channels type size) = Unit {0}
IsHoused g top h (Procedure number) = Unit {0}
IsHoused g top (Word w) (Scalar kind type range) = IsRange range × (w < top) × MayRead g.setting w
IsHoused g top (Block w head) (Scalar kind type range) =
    IsRange range × (w + 1 < top) × MayRead g.setting w × HasTurns range
IsHoused g top (Word w) (Array kind type (Some size) range) =
    (range ≡ type_range type) × (w + words_for type size ≤ top) × MayReadAll g.setting w (words_for type size)
IsHoused g top (Table values) (Array arrays.Table type (Some size) range) =
    IsRange range × (length values ≡ size) × (ReadsTable g.pieces values → HasTable g.setting values range)
IsHoused g top h m = ⊥

abbrev pub IsHousedThere : Scene → (top : ℕ) → Option Home → Meaning → Type 0
IsHousedThere g top None m = ⊥
IsHousedThere g top (Some h) m = IsHoused g top h m

-- Each name of the scope has its home in the frame, before this word.
pub record IsScope (g : Scene) (top : ℕ) (es : List Entry) : Type 0 where
  pub housed : EachNameHas (IsHousedThere g top) g.homes es
  pub few : top ≤ MAX_DATA_WORDS
