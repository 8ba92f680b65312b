-- What it is that the code of an expression pushes a value.
use Rattle.std.specs.Prelude.{◌≡◌, ⊤, ℕ, ◌<◌, ◌≤◌, ◌⊎◌, ℤ, pos, Bool, true, false, ◌&&◌, ◌||◌, List, ◌++◌}
use Rattle.std.specs.List.{AllByRecursion}
use Rattle.prefix_decoder.specs.declared.function.Fun.TheVariants as fun
use Rattle.machine_state.specs.Memory.{Memory}
use Rattle.module_format.specs.declared.stack.Stack.{Stack}
use Rattle.scalar_ranges.specs.Entries.{Entry}
use Rattle.scalar_ranges.specs.Environments.{Environment}
use Rattle.code_pieces.specs.declared.words.TheConstants.{GREATEST_WORD}
use Rattle.code_pieces.specs.Pieces.{Piece, Direct, TableAddress, word_after}
use Rattle.code_pieces.specs.Laying.{words_taken}
use Rattle.line_pieces.specs.Expressions.{Operand}
use Rattle.placed_code.specs.StraightPieces.{Held, LeadOn, with_pushed}
use Rattle.placed_code.specs.TablesInMemory.{ReadsTable}
use Rattle.meant_lines.specs.Words.{ChangesWithin}
use Rattle.meant_lines.specs.Carrying.{Ground, Carries}

-- From what is held before, pieces lead to where the value is in A. Of memory only words from t on have changed. Where
-- they are small, B is what A was, and where they are one push, nothing else has changed.
pub record Pushed (g : Ground) (ps : List Piece) (t : ℕ) (leaf small : Bool) (v : ℤ) (before : Held) : Type 0 where
  pub after : Held
  pub leads : LeadOn g.footing ps before after
  pub a : after.stack.a ≡ v
  pub changes : ChangesWithin t g.words before.memory after.memory
  pub below : small ≡ true → after.stack.b ≡ before.stack.a
  pub alone : leaf ≡ true → after ≡ with_pushed v before

-- so they do wherever this holds of memory
abbrev pub PushesValue : Ground → (Memory → Type 0) → List Piece → (t : ℕ) → (leaf small : Bool) → ℤ → Type 0
PushesValue g P ps t leaf small v = (h : Held) → P h.memory → Pushed g ps t leaf small v h

-- A word that a piece stores is one of the frame.
abbrev pub StoresWithin : ℕ → Piece → Type 0
StoresWithin words (Direct fun.StoreLocal (pos word)) = word < words
StoresWithin words p = ⊤

abbrev pub AllStoreWithin : ℕ → List Piece → Type 0
AllStoreWithin words ps = AllByRecursion (StoresWithin words) ps

-- A piece of this whole code: what it stores is in the frame, and the table whose address it makes is read.
abbrev pub StandsOn : ℕ → List Piece → Piece → Type 0
StandsOn words whole (Direct fun.StoreLocal (pos word)) = word < words
StandsOn words whole (TableAddress values) = ReadsTable whole values
StandsOn words whole p = ⊤

abbrev pub AllStandOn : Ground → List Piece → Type 0
AllStandOn g ps = AllByRecursion (StandsOn g.words g.pieces) ps

-- All code stores within the words that it takes.
abbrev pub CodeStoresWithin : Type 0
CodeStoresWithin = (ps : List Piece) → AllStoreWithin (words_taken ps) ps

-- So are all parts of the code, if it stores within the frame.
abbrev pub PartsStand : Type 0
PartsStand = (g : Ground) (before ps rest : List Piece) → AllStoreWithin g.words g.pieces
    → g.pieces ≡ before ++ (ps ++ rest) → AllStandOn g ps

-- where memory carries the environment of a scope
abbrev pub Pushes : Ground → (top : ℕ) → List Entry → Environment → List Piece → (t : ℕ) → (leaf small : Bool) → ℤ
    → Type 0
Pushes g top es env ps t leaf small v =
    AllStandOn g ps → PushesValue g (Carries g top es env) ps t leaf small v

-- The first word that is free is counted.
abbrev pub IsCounted : ℕ → Type 0
IsCounted t = t ≤ GREATEST_WORD

-- ---- two operands

-- an operand beside another one, where a temporary is free and where the next one is
pub record OperandPushes (g : Ground) (top : ℕ) (es : List Entry) (env : Environment) (t : ℕ) (o : Operand) (v : ℤ)
    : Type 0 where
  pub first : Pushes g top es env o.first t o.leaf o.small v
  pub second : Pushes g top es env o.second (word_after t 1) o.leaf o.small v

-- the first one in B and the second one in A, or in any order
abbrev pub AreOperands : (in_order : Bool) → (x y : ℤ) → Stack ℤ → Type 0
AreOperands true x y s = (s.b ≡ x) × (s.a ≡ y)
AreOperands false x y s = ((s.b ≡ x) × (s.a ≡ y)) ⊎ ((s.b ≡ y) × (s.a ≡ x))

-- what was in A is kept below both of these operands
abbrev pub keeps : (first second : Operand) → Bool
keeps x y = (x.small || x.leaf) && y.leaf

pub record PushedBoth (g : Ground) (ps : List Piece) (t : ℕ) (in_order kept : Bool) (x y : ℤ) (before : Held)
    : Type 0 where
  pub after : Held
  pub leads : LeadOn g.footing ps before after
  pub operands : AreOperands in_order x y after.stack
  pub changes : ChangesWithin t g.words before.memory after.memory
  pub below : kept ≡ true → after.stack.c ≡ before.stack.a
