-- Variables have words of their own, as their declarations gave them.
use Rattle.std.proofs.Common.{◌≡◌, ℕ, suc, ◌<◌, Bool, true, false, cond, List, [], ◌∷◌, ◌++◌, length, Option, Some}
use Rattle.std.proofs.Common.{None, refl, sym, ap, subst, ◌∙◌, arith}
use Rattle.std.specs.List.{AllByRecursion}
use Rattle.std.specs.Prelude.{bytes_eq, nat_eq, option_and_then, slice_get}
use Rattle.word_arithmetic.specs.Range.{Ends, full}
use Rattle.occam_parser.specs.declared.tree.ValueType.{ValueType}
use Rattle.occam_parser.specs.Lines as lines
use Rattle.occam_parser.specs.Lines.{Channels, Constants, Declaration, Value, Variables}
use Rattle.occam_parser.specs.OneOrMore.{as_list}
use Rattle.scalar_ranges.specs.declared.scope.ArrayKind.TheVariants as array
use Rattle.scalar_ranges.specs.declared.scope.ScalarKind.TheVariants as scalar
use Rattle.scalar_ranges.specs.Entries.{Array, Entry, Meaning, Scalar, meaning_in, number_in, type_range}
use Rattle.scalar_ranges.specs.MoveLaws.{shape}
use Rattle.scalar_ranges.specs.Narrowing.{with_range}
use Rattle.scalar_ranges.proofs.MoveLaws.{shape_long}
use Rattle.program_uses.specs.Constants.{size_in}
use Rattle.program_uses.specs.Declaring.{add, add_all, add_declaration, channel_meaning, constant_meaning, range_of_bytes}
use Rattle.program_uses.specs.Declaring.{range_of_items, table_of, variable_meaning}
use Rattle.line_pieces.specs.Homes.{Home, Word, home_of}
use Rattle.line_pieces.specs.Declarations.{Frame, channels_in, declared, home_for, with_names, with_words, words_in}
use Rattle.meant_lines.proofs.Housing.{get_before, get_last}
use Rattle.meant_processes.specs.Places.{AreHoused, IsHoused, IsOwn}

-- ---- one home more

housed_front : (hs others : List Home) (es : List Entry)
    → ((i : ℕ) → i < length es → slice_get others i ≡ slice_get hs i) → AreHoused hs es → AreHoused others es
housed_front hs others [] same housed = tt
housed_front hs others (e ∷ es) same housed = (
  subst (λ (o : Option Home). IsHoused o e.meaning) (sym (same (length es) (omega arith))) housed.0,
  housed_front hs others es (λ i less. same i (omega (arith, less))) housed.1,
)

pub housed_more : (hs : List Home) (h : Home) (e : Entry) (es : List Entry) → length hs ≡ length es
    → IsHoused (Some h) e.meaning → AreHoused hs es → AreHoused (hs ++ h ∷ []) (e ∷ es)
housed_more hs h e es long is housed = (
  subst (λ (o : Option Home). IsHoused o e.meaning) (sym (get_last hs h (length es) long)) is,
  housed_front hs (hs ++ h ∷ []) es (λ i less. get_before hs h i (omega (arith, less, long))) housed,
)

home_more : (hs : List Home) (h : Home) → length (hs ++ h ∷ []) ≡ suc (length hs)
home_more [] h = refl
home_more (x ∷ hs) h = ap suc (home_more hs h)

-- ---- declarations

names_housed : (count : ℕ) (m : Meaning) (names : List (List ℕ)) (f : Frame) (es : List Entry)
    → length f.homes ≡ length es → AreHoused f.homes (shape es)
    → AreHoused (with_names count names f).homes (shape (add_all names m es))
names_housed count m [] f es long housed = housed
names_housed count m (name ∷ names) f es long housed =
    names_housed count m names (with_words count f) (add name m es) (home_more f.homes (Word f.top) ∙ ap suc long)
    (housed_more f.homes (Word f.top) (record { name = name; meaning = with_range (λ r. full) m }) (shape es)
    (long ∙ sym (shape_long es)) tt housed)

-- a table is no array that can change
table_by : (h : Home) (t : Bool) (type : ValueType) (n : ℕ) (range : Ends) → IsHoused (Some h)
    (with_range (λ r. full) (cond t (Array array.Table type (Some n) range) (Array array.Table type None (type_range type))))
table_by (Word w) t type n range = tt
table_by h true type n range = tt
table_by h false type n range = tt

table_housed : (h : Home) (type : ValueType) (size : Option ℕ) (count : ℕ) (range : Option Ends)
    → IsHoused (Some h) (with_range (λ r. full) (table_of type size count range))
table_housed (Word w) type size count range = tt
table_housed h type None count range = tt
table_housed h type (Some n) count None = tt
table_housed h type (Some n) count (Some range) = table_by h (nat_eq n count) type n range

constant_housed : (es : List Entry) (type : ValueType) (value : Value)
    → IsHoused (Some (home_for es type value)) (with_range (λ r. full) (constant_meaning es type value))
constant_housed es type (lines.Scalar e) = tt
constant_housed es type (lines.Table size items) =
    table_housed (home_for es type (lines.Table size items)) type (size_in es size) (length (as_list items))
    (range_of_items es type items)
constant_housed es type (lines.Bytes size bytes) =
    table_housed (home_for es type (lines.Bytes size bytes)) type (size_in es size) (length bytes)
    (range_of_bytes type bytes)

pub declared_housed : (es : List Entry) (d : Declaration) (f : Frame) → length f.homes ≡ length es
    → AreHoused f.homes (shape es) → AreHoused (declared es d f).homes (shape (add_declaration d es))
declared_housed es (Constants c) f long housed =
    housed_more f.homes (home_for es c.value_type c.value)
    (record { name = c.name; meaning = with_range (λ r. full) (constant_meaning es c.value_type c.value) }) (shape es)
    (long ∙ sym (shape_long es)) (constant_housed es c.value_type c.value) housed
declared_housed es (Variables n) f long housed =
    names_housed (words_in es n.value_type n.size) (variable_meaning es n.value_type n.size) (as_list n.names) f es long
    housed
declared_housed es (Channels n) f long housed =
    names_housed (channels_in es n.size) (channel_meaning es n.value_type n.size) (as_list n.names) f es long housed

-- ---- names

found_by : (t : Bool) (hs : List Home) (name : List ℕ) (e : Entry) (es : List Entry) (m : Meaning)
    → cond t (Some e.meaning) (meaning_in name es) ≡ Some m
    → IsHoused (slice_get hs (length es)) (with_range (λ r. full) e.meaning)
    → (meaning_in name es ≡ Some m → IsHoused (home_of hs es name) (with_range (λ r. full) m))
    → IsHoused (option_and_then (slice_get hs) (cond t (Some (length es)) (number_in name es)))
    (with_range (λ r. full) m)
found_by true hs name e es m is here further =
    let same : e.meaning ≡ m = cc is in
    subst (λ (k : Meaning). IsHoused (slice_get hs (length es)) (with_range (λ r. full) k)) same here
found_by false hs name e es m is here further = further is

-- the home that code finds for a name is as its kind says
found_housed : (hs : List Home) (es : List Entry) (name : List ℕ) (m : Meaning) → AreHoused hs (shape es)
    → meaning_in name es ≡ Some m → IsHoused (home_of hs es name) (with_range (λ r. full) m)
found_housed hs [] name m housed is = absurd (cc is)
found_housed hs (e ∷ es) name m housed is =
    found_by (bytes_eq e.name name) hs name e es m is
    (subst (λ n. IsHoused (slice_get hs n) (with_range (λ r. full) e.meaning)) (shape_long es) housed.0)
    (found_housed hs es name m housed.1)

scalar_word : (h : Option Home) (type : ValueType) (range : Ends) → IsHoused h (Scalar scalar.Variable type range)
    → (w : ℕ) × (h ≡ Some (Word w))
scalar_word (Some (Word w)) type range is = (w, refl)
scalar_word (Some h) type range is = absurd is
scalar_word None type range is = absurd is

array_word : (h : Option Home) (type : ValueType) (size : Option ℕ) (range : Ends)
    → IsHoused h (Array array.Variable type size range) → (w : ℕ) × (h ≡ Some (Word w))
array_word (Some (Word w)) type size range is = (w, refl)
array_word (Some h) type size range is = absurd is
array_word None type size range is = absurd is

pub scalars_housed : (hs : List Home) (es : List Entry) (name : List ℕ) (type : ValueType) (range : Ends)
    → AreHoused hs (shape es) → meaning_in name es ≡ Some (Scalar scalar.Variable type range)
    → (w : ℕ) × (home_of hs es name ≡ Some (Word w))
scalars_housed hs es name type range housed is =
    scalar_word (home_of hs es name) type full
    (found_housed hs es name (Scalar scalar.Variable type range) housed is)

pub arrays_housed : (hs : List Home) (es : List Entry) (name : List ℕ) (type : ValueType) (size : Option ℕ)
    (range : Ends) → AreHoused hs (shape es) → meaning_in name es ≡ Some (Array array.Variable type size range)
    → (w : ℕ) × (home_of hs es name ≡ Some (Word w))
arrays_housed hs es name type size range housed is =
    array_word (home_of hs es name) type size range
    (found_housed hs es name (Array array.Variable type size range) housed is)

-- ---- no parameter is a variable

own_by : (t : Bool) (e : Entry) (o : Option Meaning) (type : ValueType) (range : Ends)
    → cond t (Some e.meaning) o ≡ Some (Scalar scalar.Reference type range)
    → IsOwn (with_range (λ r. full) e.meaning)
    → (o ≡ Some (Scalar scalar.Reference type range) → ⊥) → ⊥
own_by true e o type range is own further =
    let same : e.meaning ≡ Scalar scalar.Reference type range = cc is in
    subst (λ (k : Meaning). IsOwn (with_range (λ r. full) k)) same own
own_by false e o type range is own further = further is

pub no_references : (es : List Entry) (name : List ℕ) (type : ValueType) (range : Ends)
    → AllByRecursion (λ e. IsOwn e.meaning) (shape es)
    → meaning_in name es ≡ Some (Scalar scalar.Reference type range) → ⊥
no_references [] name type range own is = absurd (cc is)
no_references (e ∷ es) name type range own is =
    own_by (bytes_eq e.name name) e (meaning_in name es) type range is own.0 (no_references es name type range own.1)
