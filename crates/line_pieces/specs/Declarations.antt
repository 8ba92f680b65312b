-- The code of declarations: which words names take, and how these are set to 0.
use Rattle.std.specs.Prelude.{ℕ, zero, suc, ◌+◌, ◌-◌, min, nat_lt, ℤ, pos, List, [], ◌∷◌, ◌++◌, map}
use Rattle.std.specs.Prelude.{if◌then◌else◌, Option, Some, None, unwrap_or}
use Rattle.occam_parser.specs.declared.tree.ValueType.{ValueType}
use Rattle.occam_parser.specs.Expressions.{Expression}
use Rattle.occam_parser.specs.OneOrMore.{as_list}
use Rattle.occam_parser.specs.Lines.{Value, Scalar, Table, Bytes, Declaration, Constants, Variables, Channels}
use Rattle.scalar_ranges.specs.Entries.{Entry}
use Rattle.scalar_ranges.specs.Types.{type_of_values}
use Rattle.program_uses.specs.Constants.{value_as, size_in}
use Rattle.code_pieces.specs.Pieces.{Piece, constant, stores, moves, word_after}
use Rattle.code_pieces.specs.declared.piece.RowEntry.{RowEntry}
use Rattle.line_pieces.specs.Homes as home
use Rattle.line_pieces.specs.Homes.{Home, Nowhere, Word, Block, words_for, facts_of}

-- Where names are, from the outermost one on, the first word that is free, and what is known of the words of those that
-- called the procedure.
pub record Frame : Type 0 where
  pub homes : List Home
  pub top : ℕ
  pub outer : List RowEntry

-- what a row says: what is known of words outside, and what a scope knows
abbrev pub facts_in : Frame → List Entry → List RowEntry
facts_in f es = f.outer ++ facts_of f.homes es

-- one name more, which takes this number of words
abbrev pub with_words : ℕ → Frame → Frame
with_words count f = record f { homes = f.homes ++ Word f.top ∷ []; top = word_after f.top count }

abbrev pub with_home : Home → Frame → Frame
with_home h f = record f { homes = f.homes ++ h ∷ [] }

-- the index of a loop with its head at this label, in two words
abbrev pub with_block : ℕ → Frame → Frame
with_block head f = record f { homes = f.homes ++ Block f.top head ∷ []; top = word_after f.top 2 }

abbrev pub with_names : ℕ → List (List ℕ) → Frame → Frame
with_names count [] f = f
with_names count (name ∷ names) f = with_names count names (with_words count f)

-- ---- constants

-- the values of a table: what has none is 0
abbrev pub item_values : List Entry → ValueType → List Expression → List ℤ
item_values es type items = map (λ e. unwrap_or (value_as es (type_of_values type) e) (pos 0)) items

abbrev pub home_for : List Entry → ValueType → Value → Home
home_for es type (Scalar e) = Nowhere
home_for es type (Table size items) = home.Table (item_values es type (as_list items))
home_for es type (Bytes size bytes) = home.Table (map pos bytes)

-- ---- variables

-- A size without a value is that of no array.
abbrev pub words_in : List Entry → ValueType → Option Expression → ℕ
words_in es type None = 1
words_in es type (Some size) = words_for type (unwrap_or (size_in es size) 0)

-- the declared words are those of arrays, or of scalars
abbrev pub channels_in : List Entry → Option Expression → ℕ
channels_in es None = 1
channels_in es (Some size) = unwrap_or (size_in es size) 0

-- Of `count` words from this one on the first `done` are 0. They are moved to the words after them
-- until all are 0, in at most this number of moves.
abbrev pub spread : ℕ → ℕ → ℕ → ℕ → List Piece
spread zero word count done = []
spread (suc more) word count done =
    if nat_lt done count
    then
    moves (min done (count - done)) word (word_after word done)
    ++ spread more word count (done + min done (count - done))
    else []

-- An array is set to 0 by moves, which also make its words full: the first one from a word after the array.
abbrev pub zero_array : ℕ → ℕ → List Piece
zero_array word count =
    constant (pos 0) ∷ stores (word_after word count)
    ∷ moves 1 (word_after word count) word ++ spread (count - 1) word count 1

abbrev pub zero_scalar : ℕ → List Piece
zero_scalar word = constant (pos 0) ∷ stores word ∷ []

abbrev pub zero_code : Option Expression → ℕ → ℕ → List Piece
zero_code None word count = zero_scalar word
zero_code (Some size) word count = zero_array word count

-- each of these names, which take this number of words each, from this word on
abbrev pub zero_names : Option Expression → ℕ → List (List ℕ) → ℕ → List Piece
zero_names size count [] word = []
zero_names size count (name ∷ names) word =
    zero_code size word count ++ zero_names size count names (word_after word count)

-- ---- declarations

abbrev pub declared : List Entry → Declaration → Frame → Frame
declared es (Constants c) f = with_home (home_for es c.value_type c.value) f
declared es (Variables n) f = with_names (words_in es n.value_type n.size) (as_list n.names) f
declared es (Channels n) f = with_names (channels_in es n.size) (as_list n.names) f

abbrev pub declaration_code : List Entry → Declaration → ℕ → List Piece
declaration_code es (Constants c) top = []
declaration_code es (Variables n) top =
    zero_names n.size (words_in es n.value_type n.size) (as_list n.names) top
declaration_code es (Channels n) top = []
