-- Pieces that lie in code that keeps rows apart, and what they make a process do from wherever they lie.
use Rattle.std.specs.Prelude.{◌≡◌, ℕ, ◌<◌, pos, Bool, true, List, [], ◌∷◌, length}
use Rattle.machine_state.specs.Memory.{Memory}
use Rattle.scalar_ranges.specs.Environments.{Environment}
use Rattle.program_meaning.specs.Doing.{Doing}
use Rattle.code_pieces.specs.Pieces.{Piece, Row, constant}
use Rattle.code_pieces.specs.Laying.{apart_from, at_row_behind}
use Rattle.placed_code.specs.StraightPieces.{Held}
use Rattle.placed_code.specs.LaidCode.{LaidCode, IsAt, Lie}
use Rattle.placed_code.specs.Points.{Point, point}
use Rattle.placed_code.specs.Behaves.{Behaves}

-- A piece lies between two offsets, with `ldc 0` before it if it is a row and one may be right before.
abbrev pub IsAtApart : LaidCode → (at_row : Bool) → ℕ → Piece → ℕ → Type 0
IsAtApart c true at (Row l entries) to = IsAt c at (constant (pos 0)) to × (c.labels l ≡ to)
IsAtApart c at_row at p to = IsAt c at p to

-- so do pieces, one after the other
pub data LieApart (c : LaidCode) : Bool → ℕ → List Piece → ℕ → Type 0 where
  none : {at_row : Bool} {at : ℕ} → LieApart c at_row at [] at
  more : {at_row : Bool} {at middle to : ℕ} {p : Piece} {ps : List Piece} → IsAtApart c at_row at p middle
      → LieApart c (at_row_behind p at_row) middle ps to → LieApart c at_row at (p ∷ ps) to

-- Pieces lie so where their rows were kept apart.
abbrev pub PiecesLieApart : Type 0
PiecesLieApart = (c : LaidCode) (at_row : Bool) (ps : List Piece) (at to : ℕ) → Lie c at (apart_from at_row ps) to
    → LieApart c at_row at ps to

-- The process has come to this offset, and something holds of what is left and of memory.
abbrev pub ComesTo : ℕ → (Environment → Memory → Type 0) → Environment → Point → Type 0
ComesTo to After env q = (q.at ≡ to) × After env q.held.memory

-- Wherever pieces lie that have code behind them, from memory of which the one holds they make the process do what the
-- tree says, and where that leaves an environment, it has come to their end and the other holds.
pub record PiecesBehave (c : LaidCode) (Before : Memory → Type 0) (ps : List Piece)
    (After : Environment → Memory → Type 0) (t : Doing) : Type 0 where
  pub behaves : (at_row : Bool) (at to : ℕ) (h : Held) → LieApart c at_row at ps to → to < length c.code
      → Before h.memory → Behaves c (ComesTo to After) (point at h) t
