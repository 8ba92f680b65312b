-- Variables that actions change: where they are, and which element of an array a subscript selects.
use Rattle.std.specs.Prelude.{◌≡◌, ℕ, ◌+◌, ◌<◌, ◌≤◌, ℤ, pos, Bool, List, Option, Some, None}
use Rattle.word_arithmetic.specs.Range.{Ends}
use Rattle.occam_parser.specs.declared.tree.ValueType.{ValueType}
use Rattle.occam_parser.specs.Expressions.{Expression}
use Rattle.scalar_ranges.specs.declared.scope.ScalarKind.TheVariants as scalar
use Rattle.scalar_ranges.specs.Bounds.{bound_of, range_found}
use Rattle.scalar_ranges.specs.Entries.{Scalar, Entry, meaning_in}
use Rattle.line_pieces.specs.Homes.{Word, home_of, words_for}
use Rattle.line_pieces.specs.Expressions.{expression_code, first_code, offset_of, without, or_zero, single, is_small}
use Rattle.certified_lines.specs.StraightRules.{Setting}
use Rattle.certified_lines.specs.Instructions.{MayWrite}
use Rattle.certified_lines.specs.Scopes.{Scene}
use Rattle.certified_lines.specs.Telling.{Tells, IsFree}
use Rattle.certified_lines.specs.ElementLaws.{IsArray, Select}
use Rattle.certified_lines.specs.NarrowedScopes.{AreBeside}

-- each of these words may be written
abbrev pub MayWriteAll : Setting → (word count : ℕ) → Type 0
MayWriteAll g word count = (n : ℕ) → n < count → MayWrite g (word + n)

-- A name of the scope is that of a variable, a scalar in this word, which is no other name's and may be written.
pub record IsOwnScalar (g : Scene) (es : List Entry) (name : List ℕ) (type : ValueType) (w : ℕ) : Type 0 where
  pub range : Ends
  pub means : meaning_in name es ≡ Some (Scalar scalar.Variable type range)
  pub at : home_of g.homes es name ≡ Some (Word w)
  pub beside : AreBeside g.homes w name es
  pub writes : MayWrite g.setting w

-- A name of the scope is that of an array in words from this one on, which may be written.
pub record IsOwnArray (g : Scene) (es : List Entry) (name : List ℕ) (type : ValueType) (size w : ℕ) : Type 0 where
  pub range : Ends
  pub array : IsArray g es name type (Word w) size range
  pub writes : MayWriteAll g.setting w (words_for type size)

-- The code of a subscript, without a constant that it ends with, leaves one of several numbers, and each selects an
-- element, once the constant is added.
pub record IsSelected (g : Scene) (top : ℕ) (es : List Entry) (e : Expression) (size : ℕ) (o : Option ℤ) : Type 0 where
  pub range : Ends
  pub leaf : Bool
  pub select : Select size (or_zero o) range
  pub several : range.lo ≡ range.hi → ⊥
  pub tells : (t : ℕ) → top ≤ t → IsFree t
      → Tells g es (without o (expression_code g.homes es t e) (first_code g.homes es t e)) t leaf (is_small es e) range

-- A subscript selects an element of an array of this size: its number is known, or its code selects one.
pub data IsSubscript (g : Scene) (top : ℕ) (es : List Entry) (size : ℕ) (e : Expression) : Type 0 where
  is_known : (c : ℕ) → c < size → single (range_found (bound_of es e)) ≡ Some (pos c) → IsSubscript g top es size e
  is_computed : single (range_found (bound_of es e)) ≡ None → IsSelected g top es e size None
      → IsSelected g top es e size (offset_of es e) → IsSubscript g top es size e

-- A name, and a subscript that may follow it, are a scalar or an element of an array.
pub data IsVariable (g : Scene) (top : ℕ) (es : List Entry) (name : List ℕ) (type : ValueType)
    : Option Expression → Type 0 where
  whole_scalar : {w : ℕ} → IsOwnScalar g es name type w → IsVariable g top es name type None
  array_element : {e : Expression} {size w : ℕ} → IsOwnArray g es name type size w → IsSubscript g top es size e
      → IsVariable g top es name type (Some e)
