-- What the code of elements leaves known: of words any number, of bytes any byte, and of a table what its row says.
use Rattle.std.specs.Prelude.{◌≡◌, ℕ, ◌≤◌, ℤ, pos, ◌+ℤ◌, ◌≤ℤ◌, ◌<ℤ◌, Bool, false, List, Some, None}
use Rattle.word_arithmetic.specs.Range.{Ends, IsRange, full, bytes}
use Rattle.occam_parser.specs.declared.tree.ValueType.{ValueType}
use Rattle.occam_parser.specs.declared.tree.ValueType.TheVariants as value_type
use Rattle.scalar_ranges.specs.declared.scope.ArrayKind.{ArrayKind}
use Rattle.scalar_ranges.specs.Entries.{Array, Entry, meaning_in}
use Rattle.placed_code.specs.TablesInMemory.{ReadsTable}
use Rattle.line_pieces.specs.Homes as home
use Rattle.line_pieces.specs.Homes.{Home, Word, home_of}
use Rattle.line_pieces.specs.Expressions.{Subscript, or_zero, before_offset, element_of_words, element_of_table}
use Rattle.line_pieces.specs.Expressions.{greatest_offset}
use Rattle.certified_lines.specs.Scopes.{Scene, HoldsScope, IsScope}
use Rattle.certified_lines.specs.Telling.{PushesFact}

-- a name of the scope is that of an array of this size, and has this home
pub record IsArray (g : Scene) (es : List Entry) (name : List ℕ) (type : ValueType) (h : Home) (size : ℕ)
    (range : Ends) : Type 0 where
  pub kind : ArrayKind
  pub means : meaning_in name es ≡ Some (Array kind type (Some size) range)
  pub at : home_of g.homes es name ≡ Some h

-- each number of the range selects an element, once the constant of a subscript is added to it
pub record Select (size : ℕ) (c : ℤ) (r : Ends) : Type 0 where
  pub low : pos 0 ≤ℤ c
  pub near : c ≤ℤ greatest_offset
  pub ranged : IsRange r
  pub first : pos 0 ≤ℤ (r.lo +ℤ c)
  pub last : (r.hi +ℤ c) <ℤ pos size

-- an element of an INT array whose subscript has a single value
abbrev pub KnownWordsTell : Type 0
KnownWordsTell = (g : Scene) (top t w c size : ℕ) (es : List Entry) (name : List ℕ) (range : Ends) (s : Subscript)
    (leaf small : Bool) → IsScope g top es → IsArray g es name value_type.Int (Word w) size range
    → pos c <ℤ pos size
    → PushesFact g.setting (HoldsScope g es) (element_of_words value_type.Int w (Some (pos c)) s) t leaf small full

-- and by the code of its subscript
abbrev pub WordsTell : Type 0
WordsTell = (g : Scene) (top t w size : ℕ) (es : List Entry) (name : List ℕ) (range r : Ends) (s : Subscript)
    (leaf small : Bool) → IsScope g top es → top ≤ t → IsArray g es name value_type.Int (Word w) size range
    → Select size (or_zero s.offset) r
    → PushesFact g.setting (HoldsScope g es) (before_offset s) t leaf small r
    → PushesFact g.setting (HoldsScope g es) (element_of_words value_type.Int w None s) t false small full

-- an element of a BYTE array
abbrev pub KnownBytesTell : Type 0
KnownBytesTell = (g : Scene) (top t w c size : ℕ) (es : List Entry) (name : List ℕ) (range : Ends) (s : Subscript)
    (small : Bool) → IsScope g top es → IsArray g es name value_type.Byte (Word w) size range → pos c <ℤ pos size
    → PushesFact g.setting (HoldsScope g es) (element_of_words value_type.Byte w (Some (pos c)) s) t false small bytes

abbrev pub BytesTell : Type 0
BytesTell = (g : Scene) (top t w size : ℕ) (es : List Entry) (name : List ℕ) (range r : Ends) (s : Subscript)
    (leaf small : Bool) → IsScope g top es → top ≤ t → IsArray g es name value_type.Byte (Word w) size range
    → Select size (pos 0) r → PushesFact g.setting (HoldsScope g es) s.whole t leaf small r
    → PushesFact g.setting (HoldsScope g es) (element_of_words value_type.Byte w None s) t false small bytes

-- an item of a table that code reads
abbrev pub KnownItemsTell : Type 0
KnownItemsTell = (g : Scene) (top t c size : ℕ) (es : List Entry) (name : List ℕ) (type : ValueType)
    (values : List ℤ) (range : Ends) (s : Subscript) (small : Bool) → IsScope g top es
    → IsArray g es name type (home.Table values) size range → ReadsTable g.pieces values → pos c <ℤ pos size
    → PushesFact g.setting (HoldsScope g es) (element_of_table values (Some (pos c)) s) t false small range

abbrev pub ItemsTell : Type 0
ItemsTell = (g : Scene) (top t size : ℕ) (es : List Entry) (name : List ℕ) (type : ValueType) (values : List ℤ)
    (range r : Ends) (s : Subscript) (leaf small : Bool) → IsScope g top es → top ≤ t
    → IsArray g es name type (home.Table values) size range → ReadsTable g.pieces values
    → Select size (or_zero s.offset) r
    → PushesFact g.setting (HoldsScope g es) (before_offset s) t leaf small r
    → PushesFact g.setting (HoldsScope g es) (element_of_table values None s) t false small range
