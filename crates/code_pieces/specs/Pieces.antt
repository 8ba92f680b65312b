-- The code of a program before it is laid out: pieces, and rows among them that say what is known where they are.
use Rattle.std.specs.Prelude.{ℕ, ◌+◌, ◌*◌, min, ℤ, pos, List, [], ◌∷◌, ◌++◌, if◌then◌else◌, Option, Some, None}
use Rattle.std.specs.Prelude.{option_map}
use Rattle.std.specs.Ordering.{int_eq}
use Rattle.word_arithmetic.specs.Word.{least_word}
use Rattle.prefix_decoder.specs.declared.function.Fun.{Fun}
use Rattle.prefix_decoder.specs.declared.function.Fun.TheVariants as fun
use Rattle.code_pieces.specs.declared.piece.RowEntry.{RowEntry}
use Rattle.code_pieces.specs.declared.piece.Workspace.{Workspace}
use Rattle.code_pieces.specs.declared.operations.TheConstants.{REVERSE, MOVE, MINIMUM_INTEGER}
use Rattle.code_pieces.specs.declared.words.TheConstants.{GREATEST_WORD}
use Rattle.code_pieces.specs.Pars as pars

pub data Piece : Type 0 where
  -- an instruction, by its function and its operand
  Direct : (fun : Fun) → (operand : ℤ) → Piece
  -- `j` and `cj` to a label
  Jump : (to : ℕ) → Piece
  JumpUnless : (to : ℕ) → Piece
  -- `ldc` with the distance between both labels, and `lend`: back to the head, or on after it
  LoopBack : (head behind : ℕ) → Piece
  -- `ldc` with the distance from one label to another
  Distance : (from to : ℕ) → Piece
  -- `startp` of the branch with this entry; the first of a PAR has the label after the PAR too
  StartBranch : (entry : ℕ) → (successor : Option ℕ) → Piece
  -- `altend`, which goes on at one of these labels
  Select : (targets : List ℕ) → Piece
  -- the address of a table with these values, each in a word of the constants
  TableAddress : (values : List ℤ) → Piece
  -- a label, and what is known at it
  Row : (label : ℕ) → (entries : List RowEntry) → Piece
  -- a label alone
  Place : (label : ℕ) → Piece
  -- what follows has its workspace there
  Within : (workspace : Workspace) → Piece
  -- somewhere in the code is this PAR
  Par : (par : pars.Par) → Piece

-- ---- words

-- Words are counted as far as the greatest one. No module has nearly as many.
unfoldable pub counted : ℕ → ℕ
counted n = min n GREATEST_WORD

-- the word that is this number of words behind another one
unfoldable pub word_after : ℕ → ℕ → ℕ
word_after word count = counted (word + count)

-- ---- single pieces

abbrev pub operates : ℤ → Piece
operates op = Direct fun.Operate op

abbrev pub loads : ℕ → Piece
loads word = Direct fun.LoadLocal (pos (counted word))

abbrev pub stores : ℕ → Piece
stores word = Direct fun.StoreLocal (pos (counted word))

-- pushes the address of a word
abbrev pub points : ℕ → Piece
points word = Direct fun.LoadLocalPointer (pos (counted word))

-- pushes a constant
abbrev pub constant : ℤ → Piece
constant v = if int_eq v least_word then operates MINIMUM_INTEGER else Direct fun.LoadConstant v

-- ---- several

-- copies this number of words from one place to another
abbrev pub moves : ℕ → ℕ → ℕ → List Piece
moves count from to = points from ∷ points to ∷ constant (pos (4 * counted count)) ∷ operates MOVE ∷ []

-- What was stored in a temporary is pushed below what is in A.
abbrev pub below : ℕ → List Piece
below temporary = loads temporary ∷ operates REVERSE ∷ []

-- ---- code with labels

-- the pieces of a process, and the least label that they leave free
pub record Code : Type 0 where
  pub pieces : List Piece
  pub labels : ℕ

abbrev pub no_code : ℕ → Option Code
no_code labels = Some (record { pieces = []; labels = labels })

-- pieces that make no label
abbrev pub written : List Piece → ℕ → Option Code
written pieces labels = Some (record { pieces = pieces; labels = labels })

-- pieces before what follows
abbrev pub before : List Piece → Option Code → Option Code
before pieces code = option_map (λ c. record { pieces = pieces ++ c.pieces; labels = c.labels }) code

-- what follows begins with the label that is left free
abbrev pub then_code : Option Code → (ℕ → Option Code) → Option Code
then_code None next = None
then_code (Some c) next = before c.pieces (next c.labels)

-- pieces after the code
abbrev pub closed_by : List Piece → Option Code → Option Code
closed_by pieces code = option_map (λ c. record { pieces = c.pieces ++ pieces; labels = c.labels }) code
