-- What the code of constants, of scalars and of elements pushes.
use Rattle.std.specs.Prelude.{◌≡◌, ℕ, ◌≤◌, ℤ, ◌+ℤ◌, Bool, false, List, [], ◌∷◌}
use Rattle.std.specs.Prelude.{FitsSigned, Option, Some, None}
use Rattle.std.specs.Int.{w32}
use Rattle.word_arithmetic.specs.Range.{Ends}
use Rattle.occam_parser.specs.declared.tree.ValueType.{ValueType}
use Rattle.occam_parser.specs.declared.tree.ValueType.TheVariants as value_type
use Rattle.scalar_ranges.specs.declared.scope.ScalarKind.{ScalarKind}
use Rattle.scalar_ranges.specs.declared.scope.ArrayKind.{ArrayKind}
use Rattle.scalar_ranges.specs.Entries.{Scalar, Array, Entry, meaning_in}
use Rattle.scalar_ranges.specs.Environments.{One, Many, Environment, held_in, item_of, Meets}
use Rattle.code_pieces.specs.Pieces.{constant}
use Rattle.line_pieces.specs.Homes as home
use Rattle.line_pieces.specs.Homes.{Home, Word, home_of}
use Rattle.line_pieces.specs.Expressions.{Subscript, scalar_code, or_zero, before_offset, element_of_words}
use Rattle.line_pieces.specs.Expressions.{element_of_table}
use Rattle.placed_code.specs.StraightPieces as pieces
use Rattle.meant_lines.specs.Carrying.{Ground, Carries}
use Rattle.placed_code.specs.TablesInMemory.{ReadsTable}
use Rattle.meant_lines.specs.Pushing.{Pushed, PushesValue}

abbrev pub ConstantsPush : Type 0
ConstantsPush = (g : Ground) (t : ℕ) (leaf small : Bool) (v : ℤ) (h : pieces.Held)
    → Pushed g (constant v ∷ []) t leaf small v h

-- a scalar's word
abbrev pub ScalarsPush : Type 0
ScalarsPush = (g : Ground) (top t : ℕ) (es : List Entry) (env : Environment) (name : List ℕ) (kind : ScalarKind)
    (type : ValueType) (range : Ends) (reference leaf small : Bool) (v : ℤ) → Meets env es
    → meaning_in name es ≡ Some (Scalar kind type range) → held_in name env ≡ One v
    → PushesValue g (Carries g top es env) (scalar_code reference (home_of g.homes es name)) t leaf small v

-- A name of the scope is that of an array, has this home and holds these numbers.
pub record IsArray (g : Ground) (es : List Entry) (env : Environment) (name : List ℕ) (type : ValueType) (h : Home)
    (vs : List ℤ) : Type 0 where
  pub kind : ArrayKind
  pub size : Option ℕ
  pub range : Ends
  pub meets : Meets env es
  pub means : meaning_in name es ≡ Some (Array kind type size range)
  pub at : home_of g.homes es name ≡ Some h
  pub holds : held_in name env ≡ Many vs

-- Subscripts: a number, and the constant that is added to it.
pub record AreSubscripts (vs : List ℤ) (i c v : ℤ) : Type 0 where
  pub first : FitsSigned w32 i
  pub offset : FitsSigned w32 c
  pub both : FitsSigned w32 (i +ℤ c)
  pub selects : item_of vs (i +ℤ c) ≡ Some v

-- an element of an INT array whose subscript has a single value
abbrev pub KnownWordsPush : Type 0
KnownWordsPush = (g : Ground) (top t w : ℕ) (es : List Entry) (env : Environment) (name : List ℕ) (vs : List ℤ)
    (s : Subscript) (leaf small : Bool) (c v : ℤ) → IsArray g es env name value_type.Int (Word w) vs
    → item_of vs c ≡ Some v
    → PushesValue g (Carries g top es env) (element_of_words value_type.Int w (Some c) s) t leaf small v

-- and by the code of its subscript
abbrev pub WordsPush : Type 0
WordsPush = (g : Ground) (top t w : ℕ) (es : List Entry) (env : Environment) (name : List ℕ) (vs : List ℤ)
    (s : Subscript) (leaf small : Bool) (i v : ℤ) → top ≤ t → IsArray g es env name value_type.Int (Word w) vs
    → AreSubscripts vs i (or_zero s.offset) v
    → PushesValue g (Carries g top es env) (before_offset s) t leaf small i
    → PushesValue g (Carries g top es env) (element_of_words value_type.Int w None s) t false small v

-- an element of a BYTE array
abbrev pub KnownBytesPush : Type 0
KnownBytesPush = (g : Ground) (top t w : ℕ) (es : List Entry) (env : Environment) (name : List ℕ) (vs : List ℤ)
    (s : Subscript) (small : Bool) (c v : ℤ) → IsArray g es env name value_type.Byte (Word w) vs
    → item_of vs c ≡ Some v
    → PushesValue g (Carries g top es env) (element_of_words value_type.Byte w (Some c) s) t false small v

abbrev pub BytesPush : Type 0
BytesPush = (g : Ground) (top t w : ℕ) (es : List Entry) (env : Environment) (name : List ℕ) (vs : List ℤ)
    (s : Subscript) (leaf small : Bool) (i v : ℤ) → top ≤ t → IsArray g es env name value_type.Byte (Word w) vs
    → item_of vs i ≡ Some v → PushesValue g (Carries g top es env) s.whole t leaf small i
    → PushesValue g (Carries g top es env) (element_of_words value_type.Byte w None s) t false small v

-- an item of a table that code reads
abbrev pub KnownItemsPush : Type 0
KnownItemsPush = (g : Ground) (top t : ℕ) (es : List Entry) (env : Environment) (name : List ℕ) (type : ValueType)
    (values vs : List ℤ) (s : Subscript) (small : Bool) (c v : ℤ)
    → IsArray g es env name type (home.Table values) vs → ReadsTable g.pieces values → item_of vs c ≡ Some v
    → PushesValue g (Carries g top es env) (element_of_table values (Some c) s) t false small v

abbrev pub ItemsPush : Type 0
ItemsPush = (g : Ground) (top t : ℕ) (es : List Entry) (env : Environment) (name : List ℕ) (type : ValueType)
    (values vs : List ℤ) (s : Subscript) (leaf small : Bool) (i v : ℤ) → top ≤ t
    → IsArray g es env name type (home.Table values) vs → ReadsTable g.pieces values
    → AreSubscripts vs i (or_zero s.offset) v
    → PushesValue g (Carries g top es env) (before_offset s) t leaf small i
    → PushesValue g (Carries g top es env) (element_of_table values None s) t false small v
