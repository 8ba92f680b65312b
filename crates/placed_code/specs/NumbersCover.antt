-- Numbers cover what is left: one that is at least what is needed from a piece on pays for that piece, and covers what
-- is needed after it and where it leads.
use Rattle.std.specs.Prelude.{◌≡◌, ℕ, ◌+◌, ◌-◌, ◌*◌, ◌≤◌, ℤ, Bool, true, false, not, List, [], ◌∷◌, ◌++◌, drop}
use Rattle.std.specs.Prelude.{Option, Some, None}
use Rattle.std.specs.Option.{option_to_list}
use Rattle.prefix_decoder.specs.declared.function.Fun.{Fun}
use Rattle.machine_state.specs.Waiting.{IsAbsent}
use Rattle.module_builder.specs.Layouts.{offset}
use Rattle.code_pieces.specs.declared.piece.RowEntry.{RowEntry}
use Rattle.code_pieces.specs.Pieces.{Piece, Direct, Jump, JumpUnless, LoopBack, Distance, TableAddress, Row, Place}
use Rattle.code_pieces.specs.Pieces.{Within, Par}
use Rattle.code_pieces.specs.Numbers.{Needs, number_at, turns_at, is_stop}
use Rattle.code_pieces.specs.Laid.{needs_in}
use Rattle.code_pieces.specs.Laying.{size_of}
use Rattle.placed_code.specs.LaidCode.{item_count, LabelsArePlacedOnce}
use Rattle.placed_code.specs.RowsFound.{SaysRow}

-- ---- what is needed

-- what is known before the first of later pieces, where all items have these lengths
abbrev pub needs_after : List Piece → List ℕ → List Piece → Needs
needs_after before lengths rest = needs_in rest (drop (item_count before) lengths)

-- the bytes of a piece after others
abbrev pub bytes_after : List Piece → List ℕ → Piece → ℕ
bytes_after before lengths p = size_of p (drop (item_count before) lengths)

-- at least what is needed by later pieces
abbrev pub Covers : List Piece → List ℕ → List Piece → ℕ → Type 0
Covers before lengths rest number = (needs_after before lengths rest).need ≤ number

-- pays for a piece, and covers the pieces after it
abbrev pub PaysAndCovers : List Piece → List ℕ → Piece → List Piece → ℕ → Type 0
PaysAndCovers before lengths p rest number =
    bytes_after before lengths p + (needs_after (before ++ p ∷ []) lengths rest).need ≤ number

-- the number that the row of a label has, and the weight of the loop with this head
abbrev pub row_number : List Piece → List ℕ → ℕ → ℕ
row_number ps lengths l = number_at l (needs_in ps lengths).labels

abbrev pub loop_weight : List Piece → List ℕ → ℕ → ℕ
loop_weight ps lengths head = number_at head (needs_in ps lengths).weights

-- ---- pieces

-- the next piece follows, and no other
abbrev pub only_goes_on : Piece → Bool
only_goes_on (Direct f e) = not (is_stop f e)
only_goes_on (Distance from to) = true
only_goes_on (TableAddress values) = true
only_goes_on (Place l) = true
only_goes_on (Within workspace) = true
only_goes_on (Par par) = true
only_goes_on p = false

-- the head to which the end of a turn goes back
abbrev pub head_of : Piece → Option ℕ
head_of (LoopBack head behind) = Some head
head_of p = None

-- those of pieces, in order
abbrev pub heads_in : List Piece → List ℕ
heads_in [] = []
heads_in (p ∷ ps) = option_to_list (head_of p) ++ heads_in ps

-- After these pieces comes one, and then the rest. Each label is placed once.
pub record ComesAfter (ps : List Piece) (labels : ℕ) (before : List Piece) (p : Piece) (rest : List Piece)
    : Type 0 where
  pub whole : ps ≡ before ++ p ∷ rest
  pub once : LabelsArePlacedOnce ps labels

-- The body of a loop is between its row and the end of a turn, and no other turn of the loop ends in it.
pub record IsBody (before turn : List Piece) (head : ℕ) (entries : List RowEntry) (count : ℕ) : Type 0 where
  pub body : List Piece
  pub whole : turn ≡ before ++ Row head entries ∷ body
  pub begins : turns_at head entries ≡ Some count
  pub other : IsAbsent head (heads_in body)

-- ---- laws

-- A piece takes the bytes between where its items begin and where they end.
abbrev pub PiecesTakeTheirBytes : Type 0
PiecesTakeTheirBytes = (before : List Piece) (lengths : List ℕ) (p : Piece)
    → offset lengths (item_count before) + bytes_after before lengths p
    ≡ offset lengths (item_count (before ++ p ∷ []))

-- The number of a label is what is needed after its row. It is the same by all pieces as by those from any before its
-- row on.
pub record LabelsKeepTheirNumbers : Type 0 where
  pub needed : (ps : List Piece) (labels : ℕ) (lengths : List ℕ) (before : List Piece) (l : ℕ)
      (entries : List RowEntry) (rest : List Piece) → ComesAfter ps labels before (Row l entries) rest
      → row_number ps lengths l ≡ (needs_after (before ++ Row l entries ∷ []) lengths rest).need
  pub same : (ps : List Piece) (labels : ℕ) (lengths : List ℕ) (before rest middle : List Piece) (l : ℕ)
      (entries : List RowEntry) → LabelsArePlacedOnce ps labels → ps ≡ before ++ rest → SaysRow rest middle l entries
      → row_number ps lengths l ≡ number_at l (needs_after before lengths rest).labels

-- Of a number that covers the pieces from one on:
pub record NumbersCover : Type 0 where
  -- it pays for a piece after which the next one follows, and covers the rest
  pub goes_on : (before : List Piece) (lengths : List ℕ) (p : Piece) (rest : List Piece) (number : ℕ)
      → only_goes_on p ≡ true → Covers before lengths (p ∷ rest) number → PaysAndCovers before lengths p rest number
  -- it pays for an instruction after which nothing is executed
  pub stops : (before : List Piece) (lengths : List ℕ) (f : Fun) (e : ℤ) (rest : List Piece) (number : ℕ)
      → is_stop f e ≡ true → Covers before lengths (Direct f e ∷ rest) number
      → bytes_after before lengths (Direct f e) ≤ number
  -- it pays for a jump, and covers the number of the label further on
  pub jumps : (ps : List Piece) (labels : ℕ) (lengths : List ℕ) (before : List Piece) (l : ℕ)
      (rest middle : List Piece) (entries : List RowEntry) (number : ℕ) → ComesAfter ps labels before (Jump l) rest
      → SaysRow rest middle l entries → Covers before lengths (Jump l ∷ rest) number
      → bytes_after before lengths (Jump l) + row_number ps lengths l ≤ number
  -- so it does at a test, and covers the rest too
  pub tests : (ps : List Piece) (labels : ℕ) (lengths : List ℕ) (before : List Piece) (l : ℕ)
      (rest middle : List Piece) (entries : List RowEntry) (number : ℕ)
      → ComesAfter ps labels before (JumpUnless l) rest → SaysRow rest middle l entries
      → Covers before lengths (JumpUnless l ∷ rest) number
      → (bytes_after before lengths (JumpUnless l) + row_number ps lengths l ≤ number)
      × PaysAndCovers before lengths (JumpUnless l) rest number
  -- at a row where no loop begins it covers the number of the row
  pub rows : (ps : List Piece) (labels : ℕ) (lengths : List ℕ) (before : List Piece) (l : ℕ)
      (entries : List RowEntry) (rest : List Piece) (number : ℕ) → ComesAfter ps labels before (Row l entries) rest
      → turns_at l entries ≡ None → Covers before lengths (Row l entries ∷ rest) number
      → row_number ps lengths l ≤ number
  -- and at the head of a loop the weight of each turn but the first too
  pub heads : (ps : List Piece) (labels : ℕ) (lengths : List ℕ) (before : List Piece) (head : ℕ)
      (entries : List RowEntry) (rest : List Piece) (count number : ℕ)
      → ComesAfter ps labels before (Row head entries) rest → turns_at head entries ≡ Some count
      → Covers before lengths (Row head entries ∷ rest) number
      → row_number ps lengths head + loop_weight ps lengths head * (count - 1) ≤ number
  -- At the end of a turn it pays and covers the rest, and with the weight it pays and covers the number of the head.
  pub turns : (ps : List Piece) (labels : ℕ) (lengths : List ℕ) (before turn : List Piece) (head behind : ℕ)
      (entries : List RowEntry) (rest : List Piece) (count number : ℕ)
      → ComesAfter ps labels turn (LoopBack head behind) rest → IsBody before turn head entries count
      → Covers turn lengths (LoopBack head behind ∷ rest) number
      → PaysAndCovers turn lengths (LoopBack head behind) rest number
      × (bytes_after turn lengths (LoopBack head behind) + row_number ps lengths head
      ≤ number + loop_weight ps lengths head)
