-- What is declared holds numbers of its type.
use Rattle.std.proofs.Common.{◌≡◌, ℕ, zero, suc, ℤ, pos, Bool, true, false, cond, List, [], ◌∷◌, length, Option, Some}
use Rattle.std.proofs.Common.{None, Ok, Err, Result, refl, arith}
use Rattle.std.proofs.lemmas.Int.{ints}
use Rattle.std.specs.Prelude.{map, fold, replicate, nat_eq, int_le, unsigned_abs, option_map, option_and_then, IfSome}
use Rattle.std.specs.List.{AllByRecursion, list_all}
use Rattle.std.proofs.lemmas.Bool.{and_parts}
use Rattle.word_arithmetic.specs.Range.{Ends, constant}
use Rattle.occam_parser.specs.declared.tree.ValueType.{ValueType}
use Rattle.occam_parser.specs.declared.tree.ValueType.TheVariants as value_type
use Rattle.occam_parser.specs.Expressions.{Expression}
use Rattle.occam_parser.specs.OneOrMore.{as_list}
use Rattle.occam_parser.specs.Lines.{Value, Table, Bytes, Declaration, Constants, Variables, Channels}
use Rattle.occam_parser.specs.Lines as lines
use Rattle.occam_layout.specs.Words.{is_byte, are_bytes}
use Rattle.occam_parser.specs.Words.{has_words, value_has_words}
use Rattle.scalar_ranges.specs.declared.types.ExprType.{ExprType}
use Rattle.scalar_ranges.specs.declared.types.ExprType.TheVariants as types
use Rattle.scalar_ranges.specs.declared.scope.ArrayKind.TheVariants as array
use Rattle.scalar_ranges.specs.Entries.{Meaning, Constant, Array, Entry, type_range}
use Rattle.scalar_ranges.specs.Environments.{Held, Nothing, One, Many, Environment, Meets}
use Rattle.scalar_ranges.specs.Bounds.{bound_of, exact_value}
use Rattle.scalar_ranges.specs.Types.{type_of, type_of_values}
use Rattle.scalar_ranges.specs.Values.{number_of}
use Rattle.scalar_ranges.specs.Steps.{both_some}
use Rattle.program_uses.specs.Constants.{has_type, value_as, size_in}
use Rattle.program_uses.specs.Declaring.{add, add_all, add_declaration, with_value, range_of_items, range_of_bytes}
use Rattle.program_uses.specs.Declaring.{table_of, constant_meaning, variable_meaning, channel_meaning}
use Rattle.program_meaning.specs.Storing.{bind, bind_all, numbers_of, held_by, zeros, zero_for}
use Rattle.program_meaning.specs.TypedValues.{IsNumberOf, IsOfType, HoldsOf, HasType, AreTyped}
use Rattle.program_meaning.specs.Declarations.{IsKnown}
use Rattle.program_meaning.specs.DeclaredTypes.{DeclarationsTyped}
use Rattle.program_meaning.proofs.ValuesTyped.{byte_in_range, values_are_typed}
use Rattle.program_meaning.proofs.TypesStay.{types_stay}
use Rattle.program_meaning.proofs.DeclarationsHold.{declarations_hold}

-- ---- expressions

from_number : (type : ValueType) (v : ℤ) → IsNumberOf (type_of_values type) v → IsOfType type v
from_number value_type.Int v h = h
from_number value_type.Byte v h = h

some_from : (type : ValueType) (n : Option ℤ) → IfSome n (IsNumberOf (type_of_values type)) → IfSome n (IsOfType type)
some_from type None h = tt
some_from type (Some v) h = from_number type v h

typed_by : (type : ValueType) (t : Result ExprType ℕ) (value : Option ℤ) (v : ℤ)
    → cond (has_type (type_of_values type) t) value None ≡ Some v → t ≡ Ok (type_of_values type)
typed_by value_type.Int (Ok types.Int) value v is = refl
typed_by value_type.Byte (Ok types.Byte) value v is = refl
typed_by value_type.Int (Ok types.Byte) value v is = absurd (cc is)
typed_by value_type.Int (Ok types.Condition) value v is = absurd (cc is)
typed_by value_type.Byte (Ok types.Int) value v is = absurd (cc is)
typed_by value_type.Byte (Ok types.Condition) value v is = absurd (cc is)
typed_by value_type.Int (Err e) value v is = absurd (cc is)
typed_by value_type.Byte (Err e) value v is = absurd (cc is)

-- a constant's number is one of its type
value_typed : (type : ValueType) (es : List Entry) (env : Environment) (e : Expression) (v : ℤ) → Meets env es
    → AreTyped env es → has_words e ≡ true → value_as es (type_of_values type) e ≡ Some v
    → IfSome (number_of env e) (IsOfType type)
value_typed type es env e v meets typed words is =
    some_from type (number_of env e) (values_are_typed es env e (type_of_values type)
    (λ name m means. types_stay.finding es env name m meets typed means) words
    (typed_by type (type_of es e) (exact_value (bound_of es e)) v is))

-- ---- items

all_typed : (type : ValueType) (o : Option ℤ) (rest : Option (List ℤ)) → IfSome o (IsOfType type)
    → IfSome rest (AllByRecursion (IsOfType type))
    → IfSome (both_some o rest (λ v vs. Some (v ∷ vs))) (AllByRecursion (IsOfType type))
all_typed type None rest h g = tt
all_typed type (Some v) None h g = tt
all_typed type (Some v) (Some vs) h g = (h, g)

-- each of the items has a value, if there is a range of all of them
record HaveValues (es : List Entry) (type : ValueType) (o : Option Ends) (items : List Expression) : Type 0 where
  begun : Ends
  begun_is : o ≡ Some begun
  values : AllByRecursion (λ e. (v : ℤ) × (value_as es (type_of_values type) e ≡ Some v)) items

values_by : (es : List Entry) (type : ValueType) (o : Option Ends) (value : Option ℤ) (e : Expression)
    (items : List Expression) → value_as es (type_of_values type) e ≡ value
    → HaveValues es type (with_value o value) items → HaveValues es type o (e ∷ items)
values_by es type None value e items is h = let begun = h.begun_is in absurd (cc begun)
values_by es type (Some q) None e items is h = let begun = h.begun_is in absurd (cc begun)
values_by es type (Some q) (Some v) e items is h =
    record { begun = q; begun_is = refl; values = ((v, is), h.values) }

have_values : (es : List Entry) (type : ValueType) (o : Option Ends) (items : List Expression) (r : Ends)
    → fold (λ range e. with_value range (value_as es (type_of_values type) e)) o items ≡ Some r
    → HaveValues es type o items
have_values es type o [] r is = record { begun = r; begun_is = is; values = tt }
have_values es type o (e ∷ items) r is =
    let value = value_as es (type_of_values type) e in
    values_by es type o value e items refl (have_values es type (with_value o value) items r is)

first_value : (es : List Entry) (type : ValueType) (value : Option ℤ) (e : Expression) (items : List Expression)
    → value_as es (type_of_values type) e ≡ value → HaveValues es type (option_map constant value) items
    → AllByRecursion (λ e. (v : ℤ) × (value_as es (type_of_values type) e ≡ Some v)) (e ∷ items)
first_value es type None e items is h = let begun = h.begun_is in absurd (cc begun)
first_value es type (Some v) e items is h = ((v, is), h.values)

items_typed : (type : ValueType) (es : List Entry) (env : Environment) (items : List Expression) → Meets env es
    → AreTyped env es → list_all has_words items ≡ true
    → AllByRecursion (λ e. (v : ℤ) × (value_as es (type_of_values type) e ≡ Some v)) items
    → IfSome (numbers_of env items) (AllByRecursion (IsOfType type))
items_typed type es env [] meets typed words values = tt
items_typed type es env (e ∷ items) meets typed words values =
    let each = and_parts (has_words e) (list_all has_words items) words in
    all_typed type (number_of env e) (numbers_of env items)
    (value_typed type es env e (values.0).0 meets typed each.0 (values.0).1)
    (items_typed type es env items meets typed each.1 values.1)

-- ---- what is held

one_held : (type : ValueType) (n : Option ℤ) → IfSome n (IsOfType type) → IfSome (option_map One n) (HoldsOf type)
one_held type None h = tt
one_held type (Some v) h = h

many_held : (type : ValueType) (o : Option (List ℤ)) → IfSome o (AllByRecursion (IsOfType type))
    → IfSome (option_map Many o) (HoldsOf type)
many_held type None h = tt
many_held type (Some vs) h = h

-- a table of this type holds what is of it
table_holds : (type : ValueType) (size : Option ℕ) (count : ℕ) (range : Option Ends) (o : Option Held)
    → ((r : Ends) → range ≡ Some r → IfSome o (HoldsOf type)) → IsKnown (table_of type size count range)
    → IfSome o (HasType (table_of type size count range))
table_holds type None count range o h known = absurd known
table_holds type (Some k) count None o h known = absurd known
table_holds type (Some k) count (Some r) o h known = by_count (nat_eq k count)
  where
    by_count : (t : Bool) → IfSome o
        (HasType (cond t (Array array.Table type (Some k) r) (Array array.Table type None (type_range type))))
    by_count true = h r refl
    by_count false = h r refl

bytes_of_type : (type : ValueType) (bytes : List ℕ) (r : Ends) → range_of_bytes type bytes ≡ Some r
    → are_bytes bytes ≡ true → AllByRecursion (IsOfType type) (map pos bytes)
bytes_of_type value_type.Int bytes r is all = absurd (cc is)
bytes_of_type value_type.Byte bytes r is all = each bytes all
  where
    each : (bytes : List ℕ) → are_bytes bytes ≡ true → AllByRecursion (IsOfType value_type.Byte) (map pos bytes)
    each [] all = tt
    each (b ∷ bytes) all =
        let both = and_parts (is_byte b) (are_bytes bytes) all in (byte_in_range b both.0, each bytes both.1)

known_value : (type : ValueType) (value : Option ℤ) → IsKnown (Constant type value)
    → (v : ℤ) × (value ≡ Some v)
known_value type None known = absurd known
known_value type (Some v) known = (v, refl)

constant_typed : (es : List Entry) (env : Environment) (type : ValueType) (value : Value) → Meets env es
    → AreTyped env es → IsKnown (constant_meaning es type value) → value_has_words value ≡ true
    → IfSome (held_by env value) (HasType (constant_meaning es type value))
constant_typed es env type (lines.Scalar e) meets typed known words =
    let v = known_value type (value_as es (type_of_values type) e) known in
    one_held type (number_of env e) (value_typed type es env e v.0 meets typed words v.1)
constant_typed es env type (Table size items) meets typed known words =
    let first = value_as es (type_of_values type) items.first in
    table_holds type (size_in es size) (length (as_list items)) (range_of_items es type items)
    (option_map Many (numbers_of env (as_list items)))
    (λ r is. many_held type (numbers_of env (as_list items)) (items_typed type es env (as_list items) meets typed
    (and_parts (has_words size) (list_all has_words (as_list items)) words).1
    (first_value es type first items.first items.others refl
    (have_values es type (option_map constant first) items.others r is)))) known
constant_typed es env type (Bytes size bytes) meets typed known words =
    table_holds type (size_in es size) (length bytes) (range_of_bytes type bytes) (Some (Many (map pos bytes)))
    (λ r is. bytes_of_type type bytes r is (and_parts (has_words size) (are_bytes bytes) words).1) known

zero_of : (type : ValueType) → IsOfType type (pos 0)
zero_of value_type.Int = omega (arith, ints)
zero_of value_type.Byte = record { from_lo = omega (arith, ints); to_hi = omega (arith, ints) }

zeros_of : (type : ValueType) (n : ℕ) → AllByRecursion (IsOfType type) (replicate n (pos 0))
zeros_of type zero = tt
zeros_of type (suc n) = (zero_of type, zeros_of type n)

zeros_held : (type : ValueType) (o : Option ℤ) → IfSome (option_and_then zeros o) (HoldsOf type)
zeros_held type None = tt
zeros_held type (Some v) = by_size (int_le (pos 1) v)
  where
    by_size : (t : Bool) → IfSome (cond t (Some (Many (replicate (unsigned_abs v) (pos 0)))) None) (HoldsOf type)
    by_size true = zeros_of type (unsigned_abs v)
    by_size false = tt

variable_typed : (es : List Entry) (env : Environment) (type : ValueType) (size : Option Expression)
    → IfSome (zero_for env size) (HasType (variable_meaning es type size))
variable_typed es env type None = zero_of type
variable_typed es env type (Some e) = zeros_held type (number_of env e)

channel_typed : (es : List Entry) (type : ValueType) (size : Option Expression)
    → HasType (channel_meaning es type size) Nothing
channel_typed es type None = tt
channel_typed es type (Some e) = tt

-- ---- declarations

bound_typed : (names : List (List ℕ)) (m : Meaning) (h : Held) (es : List Entry) (env : Environment) → HasType m h
    → AreTyped env es → AreTyped (bind_all names h env) (add_all names m es)
bound_typed [] m h es env is typed = typed
bound_typed (name ∷ names) m h es env is typed =
    bound_typed names m h (add name m es) (bind name h env) is (is, typed)

mapped_if : (o : Option Held) (f : Held → Environment) (P : Held → Type 0) (Q : Environment → Type 0) → IfSome o P
    → ((h : Held) → P h → Q (f h)) → IfSome (option_map f o) Q
mapped_if None f P Q h k = tt
mapped_if (Some x) f P Q h k = k x h

pub declarations_typed : DeclarationsTyped
declarations_typed es env (Constants c) meets typed known words =
    let m = constant_meaning es c.value_type c.value in
    mapped_if (held_by env c.value) (λ h. bind c.name h env) (HasType m)
    (λ inner. AreTyped inner (add_declaration (Constants c) es))
    (constant_typed es env c.value_type c.value meets typed known words) (λ h is. (is, typed))
declarations_typed es env (Variables n) meets typed known words =
    let m = variable_meaning es n.value_type n.size in
    mapped_if (zero_for env n.size) (λ h. bind_all (as_list n.names) h env) (HasType m)
    (λ inner. AreTyped inner (add_declaration (Variables n) es)) (variable_typed es env n.value_type n.size)
    (λ h is. bound_typed (as_list n.names) m h es env is typed)
declarations_typed es env (Channels n) meets typed known words =
    bound_typed (as_list n.names) (channel_meaning es n.value_type n.size) Nothing es env
    (channel_typed es n.value_type n.size) typed

pub ruleset declarations = (declarations_hold, declarations_typed)
