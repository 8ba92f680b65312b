-- The first end of a range is not the greater one: moves leave it so.
use Rattle.std.proofs.Common.{◌≡◌, ℕ, ℤ, pos, ◌≤ℤ◌, Bool, true, false, cond, List, [], ◌∷◌, length}
use Rattle.std.proofs.Common.{Option, Some, None, refl, sym, subst, ◌∙◌, arith, bytes_eq}
use Rattle.std.specs.Prelude.{⊤, fold, int_le, nat_eq, option_map, slice_get, unwrap_or, nat_lt}
use Rattle.std.proofs.lemmas.Int.{ints, clamps}
use Rattle.small_laws.proofs.Comparisons.{le-int_le, int_le-true}
use Rattle.word_arithmetic.specs.Range.{Ends, Narrows, constant, hull, narrowed, range_between}
use Rattle.word_arithmetic.specs.declared.compare.Comparison.{Comparison}
use Rattle.word_arithmetic.proofs.EndsLaws.{words_in_order_are_ranges}
use Rattle.word_arithmetic.proofs.NarrowingLaws.{narrowed_by_rule}
use Rattle.occam_parser.specs.declared.tree.ValueType.{ValueType}
use Rattle.occam_parser.specs.declared.tree.ValueType.TheVariants as value_type
use Rattle.occam_parser.specs.Expressions.{Expression}
use Rattle.occam_parser.specs.Lines as lines
use Rattle.occam_parser.specs.Lines.{Channels, Constants, Declaration, Value, Variables}
use Rattle.occam_parser.specs.OneOrMore.{as_list}
use Rattle.scalar_ranges.specs.declared.scope.ArrayKind.TheVariants as array
use Rattle.scalar_ranges.specs.declared.scope.ScalarKind.TheVariants as kinds
use Rattle.scalar_ranges.specs.Entries as entries
use Rattle.scalar_ranges.specs.Entries.{Array, Channel, Constant, Entry, Meaning, Procedure, Scalar, type_range}
use Rattle.scalar_ranges.specs.Entries.{number_in}
use Rattle.scalar_ranges.specs.Moves.{at_number, excluded, excluded_at, excluded_by, hull_meaning, hulls, is_one_of}
use Rattle.scalar_ranges.specs.Moves.{not_so, outermost, widen, widened, widened_if, with_meaning}
use Rattle.scalar_ranges.specs.Narrowing.{Tested, by_test, changed, left_of, narrow, opposite, test_of, with_range}
use Rattle.scalar_ranges.specs.Types.{type_of_values}
use Rattle.program_uses.specs.Constants.{size_in, value_as}
use Rattle.program_uses.specs.Declaring.{add, add_all, add_declaration, channel_meaning, constant_meaning}
use Rattle.program_uses.specs.Declaring.{range_of_bytes, range_of_items, table_of, variable_meaning, with_value}
use Rattle.line_pieces.specs.Homes as home
use Rattle.line_pieces.specs.Homes.{Home, Nowhere, Word, Block, Link, Passed}
use Rattle.certified_lines.specs.Scopes.{EachNameHas, IsHousedThere, IsScope, Scene}
use Rattle.certified_scopes.specs.Settled.{AreOrdered, IsOrdered}

-- ---- ranges

abbrev IsUp : Ends → Type 0
IsUp r = r.lo ≤ℤ r.hi

narrows_up : (P : ℤ → Type 0) (r new : Ends) → Narrows P r new → IsUp r → IsUp new
narrows_up P r new n up = by (int_le new.lo new.hi) refl
  where
    by : (b : Bool) → int_le new.lo new.hi ≡ b → IsUp new
    by true is = int_le-true new.lo new.hi is
    by false is =
        subst IsUp
        (sym (n.unchanged (λ left h.
        absurd (cc (sym (le-int_le new.lo new.hi (subst IsUp (sym (n.left left h)) h.ordered)) ∙ is))))) up

-- what is left by a comparison
pub left_up : (c : Comparison) (v : ℤ) (r : Ends) → r.lo ≤ℤ r.hi → (left_of c v r).lo ≤ℤ (left_of c v r).hi
left_up c v r up = by (range_between r.lo r.hi) refl
  where
    by : (o : Option Ends) → range_between r.lo r.hi ≡ o → IsUp (unwrap_or (option_map (narrowed c v) o) r)
    by None is = up
    by (Some q) is =
        let ranged = (words_in_order_are_ranges r.lo r.hi q).0 is in
        narrows_up _ q (narrowed c v q) (narrowed_by_rule q v (narrowed c v q) c ranged.0 refl) ranged.0.ordered

type_up : (type : ValueType) → IsUp (type_range type)
type_up value_type.Int = omega (arith, ints)
type_up value_type.Byte = omega (arith, ints)

-- ---- meanings

ranged_up : (f : Ends → Ends) (m : Meaning) → ((r : Ends) → IsUp r → IsUp (f r)) → IsOrdered m
    → IsOrdered (with_range f m)
ranged_up f (Scalar kind type range) keeps up = keeps range up
ranged_up f m keeps up = up

hull_up : (m n : Meaning) → IsOrdered m → IsOrdered (hull_meaning m n)
hull_up (Scalar kind type r) (Scalar k t s) up = omega (arith, ints, clamps, up)
hull_up (Scalar kind type r) n up = up
hull_up m n up = up

widened_up : (m : Meaning) → IsOrdered m → IsOrdered (widened m)
widened_up (Scalar kinds.Variable type range) up = type_up type
widened_up (Scalar kind type range) up = up
widened_up m up = up

-- ---- scopes

changed_by : (b : Bool) (f : Ends → Ends) (name : List ℕ) (e : Entry) (es : List Entry)
    → ((r : Ends) → IsUp r → IsUp (f r)) → AreOrdered (e ∷ es) → AreOrdered (changed f name es)
    → AreOrdered (cond b (record { name = e.name; meaning = with_range f e.meaning } ∷ es) (e ∷ changed f name es))
changed_by true f name e es keeps up rest = (ranged_up f e.meaning keeps up.0, up.1)
changed_by false f name e es keeps up rest = (up.0, rest)

changed_up : (f : Ends → Ends) (name : List ℕ) (es : List Entry) → ((r : Ends) → IsUp r → IsUp (f r)) → AreOrdered es
    → AreOrdered (changed f name es)
changed_up f name [] keeps up = tt
changed_up f name (e ∷ es) keeps up =
    changed_by (bytes_eq e.name name) f name e es keeps up (changed_up f name es keeps up.1)

-- a scope that is narrowed
pub narrow_ordered : (es : List Entry) (e : Expression) (holds : Bool) → AreOrdered es
    → AreOrdered (narrow es e holds)
narrow_ordered es e holds up = by (test_of es e)
  where
    by : (o : Option Tested) → AreOrdered (by_test es holds o)
    by None = up
    by (Some t) = changed_up (left_of _ t.constant) t.name es (left_up _ t.constant) up

at_by : (b : Bool) (f : Meaning → Meaning) (n : ℕ) (e : Entry) (es : List Entry)
    → ((m : Meaning) → IsOrdered m → IsOrdered (f m)) → AreOrdered (e ∷ es)
    → AreOrdered (at_number (with_meaning f) n es)
    → AreOrdered (cond b (with_meaning f e ∷ es) (e ∷ at_number (with_meaning f) n es))
at_by true f n e es keeps up rest = (keeps e.meaning up.0, up.1)
at_by false f n e es keeps up rest = (up.0, rest)

at_up : (f : Meaning → Meaning) (n : ℕ) (es : List Entry) → ((m : Meaning) → IsOrdered m → IsOrdered (f m))
    → AreOrdered es → AreOrdered (at_number (with_meaning f) n es)
at_up f n [] keeps up = tt
at_up f n (e ∷ es) keeps up = at_by (nat_eq (length es) n) f n e es keeps up (at_up f n es keeps up.1)

-- what is known where a condition did not hold
pub excluded_ordered : (e : Expression) (es ds : List Entry) → AreOrdered ds → AreOrdered (excluded e es ds)
excluded_ordered e es ds up = by (test_of es e)
  where
    at : (t : Tested) (o : Option ℕ) → AreOrdered (excluded_at o t ds)
    at t None = up
    at t (Some n) =
        at_up (not_so t) n ds
        (λ m here. ranged_up (left_of (opposite t.comparison) t.constant) m (left_up (opposite t.comparison) t.constant)
        here) up

    by : (o : Option Tested) → AreOrdered (excluded_by o es ds)
    by None = up
    by (Some t) = at t (number_in t.name es)

-- what is known behind two branches
pub hulls_ordered : (ds es : List Entry) → AreOrdered ds → AreOrdered (hulls ds es)
hulls_ordered [] es up = tt
hulls_ordered (d ∷ ds) [] up = up
hulls_ordered (d ∷ ds) (e ∷ es) up = (hull_up d.meaning e.meaning up.0, hulls_ordered ds es up.1)

widened_by : (b : Bool) (e : Entry) → IsOrdered e.meaning → IsOrdered (widened_if b e).meaning
widened_by true e up = widened_up e.meaning up
widened_by false e up = up

-- what is known where variables may be any numbers
pub widen_ordered : (ns : List ℕ) (es : List Entry) → AreOrdered es → AreOrdered (widen ns es)
widen_ordered ns [] up = tt
widen_ordered ns (e ∷ es) up = (widened_by (is_one_of ns (length es)) e up.0, widen_ordered ns es up.1)

left_by : (b : Bool) (e : Entry) (es ds : List Entry) → AreOrdered (e ∷ es) → AreOrdered ds
    → AreOrdered (cond b (e ∷ es) ds)
left_by true e es ds up rest = up
left_by false e es ds up rest = rest

-- the outermost names
pub left_ordered : (n : ℕ) (es : List Entry) → AreOrdered es → AreOrdered (outermost n es)
left_ordered n [] up = tt
left_ordered n (e ∷ es) up = left_by (nat_lt (length es) n) e es (outermost n es) up (left_ordered n es up.1)

-- ---- declarations

abbrev IsUpIfAny : Option Ends → Type 0
IsUpIfAny None = ⊤
IsUpIfAny (Some r) = IsUp r

value_up : (o : Option Ends) (v : Option ℤ) → IsUpIfAny o → IsUpIfAny (with_value o v)
value_up None v up = tt
value_up (Some r) None up = tt
value_up (Some r) (Some v) up = omega (arith, ints, clamps, up)

constant_up : (v : Option ℤ) → IsUpIfAny (option_map constant v)
constant_up None = tt
constant_up (Some v) = omega (arith, ints)

items_up : (es : List Entry) (type : ValueType) (items : List Expression) (o : Option Ends) → IsUpIfAny o
    → IsUpIfAny (fold (λ range e. with_value range (value_as es (type_of_values type) e)) o items)
items_up es type [] o up = up
items_up es type (e ∷ items) o up =
    items_up es type items (with_value o (value_as es (type_of_values type) e))
    (value_up o (value_as es (type_of_values type) e) up)

bytes_up : (bs : List ℕ) (r : Ends) → IsUp r → IsUp (fold (λ range b. hull range (constant (pos b))) r bs)
bytes_up [] r up = up
bytes_up (b ∷ bs) r up = bytes_up bs (hull r (constant (pos b))) (omega (arith, ints, clamps, up))

text_up : (type : ValueType) (bs : List ℕ) → IsUpIfAny (range_of_bytes type bs)
text_up value_type.Byte (b ∷ bs) = bytes_up bs (constant (pos b)) (omega (arith, ints))
text_up value_type.Byte [] = tt
text_up value_type.Int bs = tt

table_by : (b : Bool) (type : ValueType) (n : ℕ) (r : Ends) → IsUp r
    → IsOrdered (cond b (Array array.Table type (Some n) r) (Array array.Table type None (type_range type)))
table_by true type n r up = up
table_by false type n r up = type_up type

table_up : (type : ValueType) (size : Option ℕ) (count : ℕ) (range : Option Ends) → IsUpIfAny range
    → IsOrdered (table_of type size count range)
table_up type None count range up = type_up type
table_up type (Some n) count None up = type_up type
table_up type (Some n) count (Some r) up = table_by (nat_eq n count) type n r up

value_ordered : (es : List Entry) (type : ValueType) (value : Value) → IsOrdered (constant_meaning es type value)
value_ordered es type (lines.Scalar e) = tt
value_ordered es type (lines.Table size items) =
    table_up type (size_in es size) (length (as_list items)) (range_of_items es type items)
    (items_up es type items.others (option_map constant (value_as es (type_of_values type) items.first))
    (constant_up (value_as es (type_of_values type) items.first)))
value_ordered es type (lines.Bytes size bs) =
    table_up type (size_in es size) (length bs) (range_of_bytes type bs) (text_up type bs)

variable_ordered : (es : List Entry) (type : ValueType) (size : Option Expression)
    → IsOrdered (variable_meaning es type size)
variable_ordered es type None = omega (arith, ints)
variable_ordered es type (Some e) = type_up type

channel_ordered : (es : List Entry) (type : ValueType) (size : Option Expression)
    → IsOrdered (channel_meaning es type size)
channel_ordered es type None = tt
channel_ordered es type (Some e) = tt

all_ordered : (names : List (List ℕ)) (m : Meaning) (es : List Entry) → IsOrdered m → AreOrdered es
    → AreOrdered (add_all names m es)
all_ordered [] m es here up = up
all_ordered (name ∷ names) m es here up = all_ordered names m (add name m es) here (here, up)

-- the names of a declaration
pub declared_ordered : (d : Declaration) (es : List Entry) → AreOrdered es → AreOrdered (add_declaration d es)
declared_ordered (Constants c) es up = (value_ordered es c.value_type c.value, up)
declared_ordered (Variables n) es up =
    all_ordered (as_list n.names) (variable_meaning es n.value_type n.size) es
    (variable_ordered es n.value_type n.size) up
declared_ordered (Channels n) es up =
    all_ordered (as_list n.names) (channel_meaning es n.value_type n.size) es
    (channel_ordered es n.value_type n.size) up

-- ---- homes

name_ordered : (g : Scene) (top : ℕ) (o : Option Home) (m : Meaning) → IsHousedThere g top o m → IsOrdered m
name_ordered g top o (Constant type value) housed = tt
name_ordered g top o (Channel type) housed = tt
name_ordered g top o (entries.Channels type size) housed = tt
name_ordered g top o (Procedure number) housed = tt
name_ordered g top None (Scalar kind type range) housed = absurd housed
name_ordered g top (Some (Word w)) (Scalar kind type range) housed = housed.0.ordered
name_ordered g top (Some (Block w head)) (Scalar kind type range) housed = housed.0.ordered
name_ordered g top (Some h) (Scalar kind type range) housed = absurd housed
name_ordered g top None (Array kind type size range) housed = absurd housed
name_ordered g top (Some (Word w)) (Array kind type (Some size) range) housed =
    subst IsUp (sym housed.0) (type_up type)
name_ordered g top (Some (Word w)) (Array kind type None range) housed = absurd housed
name_ordered g top (Some (home.Table values)) (Array array.Table type (Some size) range) housed = housed.0.ordered
name_ordered g top (Some (home.Table values)) (Array array.Table type None range) housed = absurd housed
name_ordered g top (Some (home.Table values)) (Array kind type size range) housed = absurd housed
name_ordered g top (Some h) (Array kind type size range) housed = absurd housed

names_ordered : (g : Scene) (top : ℕ) (hs : List Home) (es : List Entry) → EachNameHas (IsHousedThere g top) hs es
    → AreOrdered es
names_ordered g top hs [] each = tt
names_ordered g top hs (e ∷ es) each =
    (name_ordered g top (slice_get hs (length es)) e.meaning each.0, names_ordered g top hs es each.1)

-- so it is of a scope
pub scope_ordered : (g : Scene) (top : ℕ) (es : List Entry) → IsScope g top es → AreOrdered es
scope_ordered g top es scope = names_ordered g top g.homes es scope.housed
