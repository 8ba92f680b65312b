-- Where the items of tables are in the memory of a module of pieces.
use Rattle.std.specs.Prelude.{◌≡◌, ℕ, ◌^◌, ◌<◌, ◌≤◌, ℤ, pos, List, ◌∷◌, ◌++◌, FitsSigned, Some}
use Rattle.std.specs.Int.{w32}
use Rattle.std.specs.List.{AllByRecursion}
use Rattle.machine_state.specs.Memory.{Memory, place_of, local_address, byte_at, word_at, byte_worth}
use Rattle.scalar_ranges.specs.Environments.{item_at}
use Rattle.code_pieces.specs.Pieces.{Piece, TableAddress}
use Rattle.code_pieces.specs.Laying.{words_taken}
use Rattle.code_pieces.specs.LaidModule.{Says, laid_module}
use Rattle.placed_code.specs.Closing.{first_point}
use Rattle.placed_code.specs.LaidCode.{laid_code}
use Rattle.placed_code.specs.StraightPieces.{Footing, word_place}

-- where an item of a table is: each has a word, that of a table of bytes too
abbrev pub item_place : Footing → List ℤ → ℕ → ℕ
item_place w values i = place_of (local_address (w.tables values) (pos i))

-- An item of a table is a word behind this many words of the frame. Its lowest byte is where the word is.
pub record HasItem (w : Footing) (words : ℕ) (m : Memory) (values : List ℤ) (i : ℕ) (v : ℤ) : Type 0 where
  pub behind : word_place words ≤ item_place w values i
  pub word : word_at m (item_place w values i) ≡ Some v
  pub byte : byte_at m (item_place w values i) ≡ Some (byte_worth 1 v)

-- memory has all items of a table
pub record HasTable (w : Footing) (words : ℕ) (m : Memory) (values : List ℤ) : Type 0 where
  pub address : w.tables values < 2 ^ 32
  pub items : (i : ℕ) (v : ℤ) → item_at i values ≡ Some v → HasItem w words m values i v

-- one of the pieces makes the address of this table
pub record ReadsTable (ps : List Piece) (values : List ℤ) : Type 0 where
  pub before : List Piece
  pub rest : List Piece
  pub whole : ps ≡ before ++ TableAddress values ∷ rest

-- The memory of a loaded module has each table that its pieces read, at the address that they make.
abbrev pub TablesAreLoaded : Type 0
TablesAreLoaded = (ps : List Piece) (labels : ℕ) (links bytes : List ℕ) (says : Says ps labels links bytes)
    (depth : ℕ) (values : List ℤ) → ReadsTable ps values → AllByRecursion (FitsSigned w32) values
    → HasTable (laid_code ps labels says.arrangement.lengths depth).footing (words_taken ps)
    (first_point (laid_module ps labels links says.arrangement)).held.memory values

-- It still has a table once only bytes before the end of the frame have changed.
abbrev pub TablesStay : Type 0
TablesStay = (w : Footing) (words : ℕ) (old new : Memory) (values : List ℤ)
    → ((place : ℕ) → word_place words ≤ place → byte_at new place ≡ byte_at old place)
    → HasTable w words old values → HasTable w words new values
