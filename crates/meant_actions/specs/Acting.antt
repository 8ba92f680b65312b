-- Where the code of an action begins and ends, and what `SKIP` and `STOP` do.
use Rattle.std.specs.Prelude.{◌≡◌, ℕ, ◌<◌, ℤ, pos, ◌+ℤ◌, Bool, List, [], ◌∷◌, length, Option, Some, None, Ok}
use Rattle.std.specs.Prelude.{FitsSigned}
use Rattle.std.specs.Int.{w32}
use Rattle.occam_parser.specs.declared.tree.ValueType.{ValueType}
use Rattle.occam_parser.specs.Expressions.{Expression}
use Rattle.occam_parser.specs.Lines.{Skip, Stop}
use Rattle.word_arithmetic.specs.Range.{Ends, InRange}
use Rattle.scalar_ranges.specs.declared.scope.ScalarKind.{ScalarKind}
use Rattle.scalar_ranges.specs.declared.scope.ArrayKind.{ArrayKind}
use Rattle.scalar_ranges.specs.Entries.{Scalar, Array, Entry, meaning_in, number_in}
use Rattle.scalar_ranges.specs.Environments.{Environment, Meets}
use Rattle.scalar_ranges.specs.Values.{number_of}
use Rattle.scalar_ranges.specs.Bounds.{bound_of, range_found}
use Rattle.program_meaning.specs.Links.{Port}
use Rattle.program_meaning.specs.Doing.{acting}
use Rattle.code_pieces.specs.declared.piece.RowEntry.{RowEntry}
use Rattle.code_pieces.specs.declared.operations.TheConstants.{STOP_PROCESS}
use Rattle.code_pieces.specs.Pieces.{Piece, Row, operates}
use Rattle.line_pieces.specs.Homes.{Word, home_of}
use Rattle.line_pieces.specs.Expressions.{expression_code, offset_of, or_zero, before_offset, subscript_of, is_leaf}
use Rattle.line_pieces.specs.Expressions.{is_small}
use Rattle.placed_code.specs.StraightPieces.{Held}
use Rattle.placed_code.specs.LaidCode.{LaidCode, Lie}
use Rattle.placed_code.specs.Points.{Point, point}
use Rattle.placed_code.specs.Behaves.{Behaves}
use Rattle.meant_lines.specs.Carrying.{Ground, Carries}
use Rattle.meant_lines.specs.Pushing.{Pushes, AllStandOn}

-- The code runs on this ground, and memory carries an environment that meets the scope.
pub record Begins (c : LaidCode) (g : Ground) (top : ℕ) (es : List Entry) (env : Environment) (h : Held)
    : Type 0 where
  pub footing : c.footing ≡ g.footing
  pub meets : Meets env es
  pub carries : Carries g top es env h.memory

-- The process has come to this offset, and memory carries the environment that is left.
pub record EndsAt (g : Ground) (top : ℕ) (es : List Entry) (to : ℕ) (env : Environment) (q : Point) : Type 0 where
  pub at : q.at ≡ to
  pub carries : Carries g top es env q.held.memory

-- what code on this ground stores is in the frame
abbrev pub AreWithin : Ground → List Piece → Type 0
AreWithin g ps = AllStandOn g ps

-- ---- expressions

-- The number of an expression is a word, and its code pushes it.
pub record IsPushed (g : Ground) (top : ℕ) (es : List Entry) (env : Environment) (t : ℕ) (e : Expression) (v : ℤ)
    : Type 0 where
  pub is : number_of env e ≡ Some v
  pub word : FitsSigned w32 v
  pub pushes : Pushes g top es env (expression_code g.homes es t e) t (is_leaf es e) (is_small es e) v

-- The code of a subscript before the constant that it ends with pushes what that is added to.
pub record IsFirstPushed (g : Ground) (top : ℕ) (es : List Entry) (env : Environment) (t : ℕ) (e : Expression) (i : ℤ)
    : Type 0 where
  pub value : ℤ
  pub leaf : Bool
  pub sum : value +ℤ or_zero (offset_of es e) ≡ i
  pub word : FitsSigned w32 value
  pub offset : FitsSigned w32 (or_zero (offset_of es e))
  pub pushes : Pushes g top es env (before_offset (subscript_of g.homes es t e)) t leaf (is_small es e) value

-- A subscript is this one, of an array of this size, and lies in the range that is found for it.
pub record IsSubscript (g : Ground) (top : ℕ) (es : List Entry) (env : Environment) (t size : ℕ) (e : Expression)
    (i : ℕ) : Type 0 where
  pub range : Ends
  pub found : range_found (bound_of es e) ≡ Ok range
  pub lies : InRange range (pos i)
  pub inside : i < size
  pub pushed : IsPushed g top es env t e (pos i)
  pub first : IsFirstPushed g top es env t e (pos i)

-- ---- names

-- A name of the scope is that of a scalar, has this number, and is in this word.
pub record IsScalar (g : Ground) (es : List Entry) (name : List ℕ) (type : ValueType) (n w : ℕ) : Type 0 where
  pub kind : ScalarKind
  pub range : Ends
  pub means : meaning_in name es ≡ Some (Scalar kind type range)
  pub number : number_in name es ≡ Some n
  pub at : home_of g.homes es name ≡ Some (Word w)

-- It is that of an array, which is in the words from this one on.
pub record IsInWords (g : Ground) (es : List Entry) (name : List ℕ) (type : ValueType) (size n w : ℕ)
    : Type 0 where
  pub kind : ArrayKind
  pub range : Ends
  pub means : meaning_in name es ≡ Some (Array kind type (Some size) range)
  pub number : number_in name es ≡ Some n
  pub at : home_of g.homes es name ≡ Some (Word w)

-- A name, and a subscript that may follow it, are a scalar or an element of an array. The words from t on are free.
pub data IsVariable (g : Ground) (top : ℕ) (es : List Entry) (env : Environment) (t : ℕ) (name : List ℕ)
    (type : ValueType) : Option Expression → Type 0 where
  whole_scalar : {n w : ℕ} → IsScalar g es name type n w → IsVariable g top es env t name type None
  array_element : {e : Expression} {size n w i : ℕ} → IsInWords g es name type size n w
      → IsSubscript g top es env t size e i → IsVariable g top es env t name type (Some e)

-- ---- nothing is done

abbrev pub SkipsBehave : Type 0
SkipsBehave = (c : LaidCode) (g : Ground) (top at to : ℕ) (es : List Entry) (env : Environment) (h : Held)
    (ports : List (Option Port)) → Begins c g top es env h → Lie c at [] to
    → Behaves c (EndsAt g top es to) (point at h) (acting ports Skip env)

-- if code is behind it, as the end of the code is where the module finishes
abbrev pub StopsBehave : Type 0
StopsBehave = (c : LaidCode) (g : Ground) (top at to label : ℕ) (es : List Entry) (env : Environment) (h : Held)
    (ports : List (Option Port)) (row : List RowEntry) → Lie c at (operates STOP_PROCESS ∷ Row label row ∷ []) to
    → to < length c.code → Behaves c (EndsAt g top es to) (point at h) (acting ports Stop env)
