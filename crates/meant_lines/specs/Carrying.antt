-- What memory holds of the names of a scope: the words of scalars, the elements of arrays, the items of tables.
use Rattle.std.specs.Prelude.{◌≡◌, ℕ, ◌+◌, ◌<◌, ◌≤◌, ℤ, pos, List, [], ◌∷◌, length, Option, Some, None}
use Rattle.std.specs.Prelude.{slice_get, unwrap_or, FitsSigned}
use Rattle.std.specs.Int.{w32}
use Rattle.std.specs.List.{AllByRecursion}
use Rattle.module_format.specs.declared.limits.TheConstants.{MAX_DATA_WORDS}
use Rattle.machine_state.specs.Memory.{Memory, byte_at}
use Rattle.occam_parser.specs.declared.tree.ValueType.{ValueType}
use Rattle.occam_parser.specs.declared.tree.ValueType.TheVariants as value_type
use Rattle.scalar_ranges.specs.Entries.{Meaning, Scalar, Array, Channel, Channels, Entry}
use Rattle.scalar_ranges.specs.Environments.{Held, One, Many, Environment, item_at}
use Rattle.code_pieces.specs.declared.words.TheConstants.{GREATEST_WORD}
use Rattle.code_pieces.specs.Pieces.{Piece}
use Rattle.line_pieces.specs.Homes as home
use Rattle.line_pieces.specs.Homes.{Home, Word, Block, words_for}
use Rattle.line_pieces.specs.Declarations.{Frame}
use Rattle.placed_code.specs.TablesInMemory.{HasTable, ReadsTable}
use Rattle.placed_code.specs.StraightPieces.{Footing, word_place}
use Rattle.meant_lines.specs.Words.{IsInFrame, Holds}

-- Where a process runs: its workspace and the tables, how many words the frame has, the pieces of all code, the homes
-- of its names from the outermost one on, and how many turns are left of the loop with its block there.
pub record Ground : Type 0 where
  pub footing : Footing
  pub words : ℕ
  pub pieces : List Piece
  pub homes : List Home
  pub turns : ℕ → ℤ

-- ---- what is held

-- This number is in a byte, which is below 256.
abbrev pub HoldsByte : Memory → ℕ → ℤ → Type 0
HoldsByte m place v = (b : ℕ) × (v ≡ pos b) × (byte_at m place ≡ Some b) × (b < 256)

-- This number is in a word, and its bytes are below 256. So they are those of the number's message.
pub record HoldsWord (m : Memory) (word : ℕ) (v : ℤ) : Type 0 where
  pub is : Holds m word v
  pub bytes : (i byte : ℕ) → i < 4 → byte_at m (word_place word + i) ≡ Some byte → byte < 256

-- the element with this number of an array whose words begin there
abbrev pub HoldsElement : ValueType → Memory → (word i : ℕ) → ℤ → Type 0
HoldsElement value_type.Int m word i v = HoldsWord m (word + i) v
HoldsElement value_type.Byte m word i v = HoldsByte m (word_place word + i) v

abbrev pub HoldsArray : ValueType → Memory → (word : ℕ) → List ℤ → Type 0
HoldsArray type m word vs = (i : ℕ) (v : ℤ) → item_at i vs ≡ Some v → HoldsElement type m word i v

-- The items of a table lie behind the words of the frame.
abbrev pub HoldsTable : Ground → Memory → List ℤ → Type 0
HoldsTable g m values = HasTable g.footing g.words m values

-- Memory has each table that code reads, if its values are words.
abbrev pub HasTables : Ground → Memory → Type 0
HasTables g m =
    (values : List ℤ) → ReadsTable g.pieces values → AllByRecursion (FitsSigned w32) values → HoldsTable g m values

-- a scalar is in its word, and the index of a loop beside the turns that are left
abbrev pub IsScalarKept : Ground → Memory → Home → Held → Type 0
IsScalarKept g m (Word w) (One v) = HoldsWord m w v
IsScalarKept g m (Block w head) (One v) = Holds m w v × Holds m (w + 1) (g.turns w)
IsScalarKept g m h held = ⊥

-- An array is in its words, and a table in the constants, if code reads it.
abbrev pub IsArrayKept : Ground → Memory → Home → ValueType → Held → Type 0
IsArrayKept g m (Word w) type (Many vs) = HoldsArray type m w vs
IsArrayKept g m (home.Table values) type (Many vs) =
    (vs ≡ values) × (ReadsTable g.pieces values → HoldsTable g m values)
IsArrayKept g m h type held = ⊥

-- What a name holds is in its home. Constants, channels and procedures hold nothing there.
abbrev pub IsKept : Ground → Memory → Home → Meaning → Held → Type 0
IsKept g m h (Scalar kind type range) held = IsScalarKept g m h held
IsKept g m h (Array kind type size range) held = IsArrayKept g m h type held
IsKept g m h meaning held = Unit {0}

abbrev pub IsKeptThere : Ground → Memory → Option Home → Meaning → Held → Type 0
IsKeptThere g m None meaning held = ⊥
IsKeptThere g m (Some h) meaning held = IsKept g m h meaning held

-- each name of the scope, the innermost one first
abbrev pub AreKept : Ground → Memory → List Entry → Environment → Type 0
AreKept g m [] [] = Unit {0}
AreKept g m (e ∷ es) (b ∷ bs) =
    IsKeptThere g m (slice_get g.homes (length es)) e.meaning b.held × AreKept g m es bs
AreKept g m es bs = ⊥

-- ---- where homes are

-- how many words a name takes
abbrev pub words_of : Meaning → ℕ
words_of (Scalar kind type range) = 1
words_of (Array kind type (Some size) range) = words_for type size
words_of (Channel type) = 1
words_of (Channels type size) = unwrap_or size 0
words_of m = 0

-- how many of them hold something, as those of a channel do not
abbrev pub words_held : Meaning → ℕ
words_held (Channel type) = 0
words_held (Channels type size) = 0
words_held m = words_of m

-- the first word of a home, or else this one
abbrev pub start_of : Option Home → ℕ → ℕ
start_of (Some (Word w)) top = w
start_of (Some (Block w head)) top = w
start_of h top = top

-- the first word after a home, of whose words these count
abbrev pub end_with : (Meaning → ℕ) → Option Home → Meaning → ℕ
end_with words (Some (Word w)) m = w + words m
end_with words (Some (Block w head)) m = w + 2
end_with words h m = 0

-- and after those that hold something
abbrev pub end_of : Option Home → Meaning → ℕ
end_of h m = end_with words_held h m

-- Each home ends where the next one inwards begins, or before. The innermost one ends before this word.
abbrev pub RiseWith : (Meaning → ℕ) → List Home → List Entry → ℕ → Type 0
RiseWith words hs [] top = Unit {0}
RiseWith words hs (e ∷ es) top =
    (end_with words (slice_get hs (length es)) e.meaning ≤ top)
    × RiseWith words hs es (start_of (slice_get hs (length es)) top)

-- so it is of what holds something
abbrev pub Rise : List Home → List Entry → ℕ → Type 0
Rise hs es top = RiseWith words_held hs es top

-- The words of a home are words of the frame, but for those of channels: no code names them.
abbrev pub IsInside : (words : ℕ) → Option Home → Meaning → Type 0
IsInside words (Some (Word w)) (Channel type) = Unit {0}
IsInside words (Some (Word w)) (Channels type size) = Unit {0}
IsInside words h m = end_of h m ≤ words

-- so are those of each name
abbrev pub AreInside : (words : ℕ) → List Home → List Entry → Type 0
AreInside words hs [] = Unit {0}
AreInside words hs (e ∷ es) = IsInside words (slice_get hs (length es)) e.meaning × AreInside words hs es

-- Each name of a scope has a home in the frame, and they rise to its top.
pub record HomesRise (f : Frame) (es : List Entry) : Type 0 where
  pub long : length f.homes ≡ length es
  pub rise : RiseWith words_of f.homes es f.top

-- ---- memory and a scope

-- The words of the frame lie in memory, and the workspace is one of a frame.
pub record HasFrame (g : Ground) (m : Memory) : Type 0 where
  pub workspace : IsInFrame g.footing.depth
  pub few : g.words ≤ MAX_DATA_WORDS
  pub inside : word_place g.words ≤ length m

-- Memory carries an environment: what each name holds is in its home, and the homes are apart and end before this word,
-- which is counted. The words that hold something are in the frame. The tables of names that come later are there too.
pub record Carries (g : Ground) (top : ℕ) (es : List Entry) (env : Environment) (m : Memory) : Type 0 where
  pub frame : HasFrame g m
  pub kept : AreKept g m es env
  pub rise : Rise g.homes es top
  pub room : AreInside g.words g.homes es
  pub counted : top ≤ GREATEST_WORD
  pub tables : HasTables g m
