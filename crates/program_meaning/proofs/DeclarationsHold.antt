-- What is declared holds what its meaning says.
use Rattle.std.proofs.Common.{◌≡◌, ℕ, zero, suc, ℤ, pos, ◌≤ℤ◌, Bool, true, false, cond, List, [], ◌∷◌, length, Option}
use Rattle.std.proofs.Common.{Some, None, Ok, Err, Result, refl, sym, ap, subst, arith, ◌∙◌, IsSomeAnd}
use Rattle.std.proofs.lemmas.Int.{ints, clamps}
use Rattle.std.proofs.lemmas.Bool.Decides.{nat_tests}
use Rattle.std.specs.Prelude.{map, fold, replicate, nat_eq, int_le, unsigned_abs, option_map, option_and_then}
use Rattle.std.specs.List.{AllByRecursion}
use Rattle.word_arithmetic.specs.Range.{Ends, InRange, constant, hull}
use Rattle.occam_parser.specs.declared.tree.ValueType.{ValueType}
use Rattle.occam_parser.specs.declared.tree.ValueType.TheVariants as value_type
use Rattle.occam_parser.specs.Expressions.{Expression}
use Rattle.occam_parser.specs.OneOrMore.{OneOrMore, as_list}
use Rattle.occam_parser.specs.Lines.{Value, Table, Bytes, Declaration, Constants, Variables, Channels}
use Rattle.occam_parser.specs.Lines as lines
use Rattle.scalar_ranges.specs.declared.types.ExprType.{ExprType}
use Rattle.scalar_ranges.specs.declared.types.ExprType.TheVariants as types
use Rattle.scalar_ranges.specs.declared.scope.ArrayKind.TheVariants as array
use Rattle.scalar_ranges.specs.Entries.{Meaning, Constant, Array, Entry, type_range}
use Rattle.scalar_ranges.specs.Environments.{Held, Nothing, One, Many, Environment, IsHeld, Meets}
use Rattle.scalar_ranges.specs.Bounds.{Bound, Exactly, Within, bound_of, exact_value}
use Rattle.scalar_ranges.specs.Laws.{IsBound, HasValue}
use Rattle.scalar_ranges.specs.Types.{type_of, type_of_values}
use Rattle.scalar_ranges.specs.Values.{number_of, truth_of}
use Rattle.scalar_ranges.specs.Steps.{both_some}
use Rattle.scalar_ranges.proofs.BoundLaws.{bounds_hold}
use Rattle.program_uses.specs.Constants.{has_type, value_as, from_one, size_in}
use Rattle.program_uses.specs.Declaring.{add, add_all, add_declaration, with_value, range_of_items, range_of_bytes}
use Rattle.program_uses.specs.Declaring.{table_of, constant_meaning, variable_meaning, channel_meaning}
use Rattle.program_meaning.specs.Storing.{bind, bind_all, numbers_of, held_by, zeros, zero_for}
use Rattle.program_meaning.specs.Declarations.{IsKnown, DeclarationsHold}

-- ---- values

exact_number : (n : Option ℤ) (v : ℤ) → IsSomeAnd n (IsBound (Exactly v)) → n ≡ Some v
exact_number None v h = absurd h
exact_number (Some x) v h = ap Some h

exact_bound : (b : Result Bound ℕ) (v : ℤ) → exact_value b ≡ Some v → b ≡ Ok (Exactly v)
exact_bound (Ok (Exactly x)) v is = let same : x ≡ v = cc in ap (λ y. Ok (Exactly y)) same
exact_bound (Ok (Within r)) v is = absurd (cc is)
exact_bound (Err e) v is = absurd (cc is)

number_by : (type : ValueType) (t : Result ExprType ℕ) (b : Result Bound ℕ) (n : Option ℤ) (w : Option Bool) (v : ℤ)
    → ((s : ExprType) → t ≡ Ok s → b ≡ Ok (Exactly v) → HasValue s (Exactly v) n w)
    → cond (has_type (type_of_values type) t) (exact_value b) None ≡ Some v → n ≡ Some v
number_by value_type.Int (Ok types.Int) b n w v has is = exact_number n v (has types.Int refl (exact_bound b v is))
number_by value_type.Byte (Ok types.Byte) b n w v has is = exact_number n v (has types.Byte refl (exact_bound b v is))
number_by value_type.Int (Ok types.Byte) b n w v has is = absurd (cc is)
number_by value_type.Int (Ok types.Condition) b n w v has is = absurd (cc is)
number_by value_type.Byte (Ok types.Int) b n w v has is = absurd (cc is)
number_by value_type.Byte (Ok types.Condition) b n w v has is = absurd (cc is)
number_by value_type.Int (Err e) b n w v has is = absurd (cc is)
number_by value_type.Byte (Err e) b n w v has is = absurd (cc is)

-- a constant's value is its number
pub value_is_number : (type : ValueType) (es : List Entry) (env : Environment) (e : Expression) (v : ℤ) → Meets env es
    → value_as es (type_of_values type) e ≡ Some v → number_of env e ≡ Some v
value_is_number type es env e v meets is =
    number_by type (type_of es e) (bound_of es e) (number_of env e) (truth_of env e) v
    (λ s t b. bounds_hold es env e s (Exactly v) meets t b) is

-- ---- arrays

all_replicated : (P : ℤ → Type 0) (n : ℕ) (v : ℤ) → P v → AllByRecursion P (replicate n v)
all_replicated P zero v p = tt
all_replicated P (suc n) v p = (p, all_replicated P n v p)

long_replicated : (n : ℕ) (v : ℤ) → length (replicate n v) ≡ n
long_replicated zero v = refl
long_replicated (suc n) v = ap suc (long_replicated n v)

zero_in : (type : ValueType) → InRange (type_range type) (pos 0)
zero_in value_type.Int = record { from_lo = omega (arith, ints); to_hi = omega (arith, ints) }
zero_in value_type.Byte = record { from_lo = omega (arith, ints); to_hi = omega (arith, ints) }

zeros_by : (t : Bool) (n size : ℕ) → cond t (Some n) None ≡ Some size
    → cond t (Some (Many (replicate n (pos 0)))) None ≡ Some (Many (replicate size (pos 0)))
zeros_by true n size is = let same : n ≡ size = cc in ap (λ k. Some (Many (replicate k (pos 0)))) same
zeros_by false n size is = absurd (cc is)

zeros_found : (o n : Option ℤ) (size : ℕ) → ((v : ℤ) → o ≡ Some v → n ≡ Some v)
    → option_and_then from_one o ≡ Some size → option_and_then zeros n ≡ Some (Many (replicate size (pos 0)))
zeros_found None n size same is = absurd (cc is)
zeros_found (Some v) n size same is =
    ap (option_and_then zeros) (same v refl) ∙ zeros_by (int_le (pos 1) v) (unsigned_abs v) size is

array_held : (type : ValueType) (size : Option ℕ) (o : Option Held)
    → ((k : ℕ) → size ≡ Some k → o ≡ Some (Many (replicate k (pos 0))))
    → IsKnown (Array array.Variable type size (type_range type))
    → IsSomeAnd o (IsHeld (Array array.Variable type size (type_range type)))
array_held type None o found known = absurd known
array_held type (Some k) o found known =
    subst (λ x. IsSomeAnd x (IsHeld (Array array.Variable type (Some k) (type_range type)))) (sym (found k refl))
    (long_replicated k (pos 0), all_replicated (InRange (type_range type)) k (pos 0) (zero_in type))

zero_held : (es : List Entry) (env : Environment) (type : ValueType) (size : Option Expression) → Meets env es
    → IsKnown (variable_meaning es type size) → IsSomeAnd (zero_for env size) (IsHeld (variable_meaning es type size))
zero_held es env type None meets known = record { from_lo = omega (arith, ints); to_hi = omega (arith, ints) }
zero_held es env type (Some e) meets known =
    array_held type (size_in es e) (option_and_then zeros (number_of env e))
    (λ k is. zeros_found (value_as es types.Int e) (number_of env e) k
    (λ v has. value_is_number value_type.Int es env e v meets has) is) known

-- ---- tables

-- numbers of all items, each in the range that the items before and these have
record AreItems (env : Environment) (items : List Expression) (r : Ends) : Type 0 where
  values : List ℤ
  numbers : numbers_of env items ≡ Some values
  long : length values ≡ length items
  all : AllByRecursion (InRange r) values

record Grown (env : Environment) (o : Option Ends) (items : List Expression) (r : Ends) : Type 0 where
  begun : Ends
  begun_is : o ≡ Some begun
  lo : r.lo ≤ℤ begun.lo
  hi : begun.hi ≤ℤ r.hi
  items_in : AreItems env items r

item_added : (env : Environment) (e : Expression) (items : List Expression) (r : Ends) (v : ℤ)
    → number_of env e ≡ Some v → InRange r v → AreItems env items r → AreItems env (e ∷ items) r
item_added env e items r v is within a = record {
  values = v ∷ a.values;
  numbers = λ i. both_some (is i) (a.numbers i) (λ v vs. Some (v ∷ vs));
  long = ap suc a.long;
  all = (within, a.all);
}

grown_by : (env : Environment) (o : Option Ends) (value : Option ℤ) (e : Expression) (items : List Expression)
    (r : Ends) → ((v : ℤ) → value ≡ Some v → number_of env e ≡ Some v) → Grown env (with_value o value) items r
    → Grown env o (e ∷ items) r
grown_by env None value e items r same g = let is = g.begun_is in absurd (cc is)
grown_by env (Some q) None e items r same g = let is = g.begun_is in absurd (cc is)
grown_by env (Some q) (Some v) e items r same g =
    let is = g.begun_is in
    let whole : hull q (constant v) ≡ g.begun = cc in
    let low = subst (λ x. r.lo ≤ℤ x.lo) (sym whole) g.lo in
    let high = subst (λ x. x.hi ≤ℤ r.hi) (sym whole) g.hi in
    record {
      begun = q;
      begun_is = refl;
      lo = omega (arith, ints, clamps, low);
      hi = omega (arith, ints, clamps, high);
      items_in = item_added env e items r v (same v refl)
          (record { from_lo = omega (arith, ints, clamps, low); to_hi = omega (arith, ints, clamps, high) }) g.items_in;
    }

grown : (type : ValueType) (es : List Entry) (env : Environment) (o : Option Ends) (items : List Expression) (r : Ends)
    → Meets env es → fold (λ range e. with_value range (value_as es (type_of_values type) e)) o items ≡ Some r
    → Grown env o items r
grown type es env o [] r meets is = record {
  begun = r;
  begun_is = is;
  lo = omega (arith, ints);
  hi = omega (arith, ints);
  items_in = record { values = []; numbers = refl; long = refl; all = tt };
}
grown type es env o (e ∷ items) r meets is =
    let value = value_as es (type_of_values type) e in
    grown_by env o value e items r (λ v has. value_is_number type es env e v meets has)
    (grown type es env (with_value o value) items r meets is)

first_by : (env : Environment) (value : Option ℤ) (e : Expression) (items : List Expression) (r : Ends)
    → ((v : ℤ) → value ≡ Some v → number_of env e ≡ Some v) → Grown env (option_map constant value) items r
    → AreItems env (e ∷ items) r
first_by env None e items r same g = let is = g.begun_is in absurd (cc is)
first_by env (Some v) e items r same g =
    let is = g.begun_is in
    let whole : constant v ≡ g.begun = cc in
    let low = subst (λ x. r.lo ≤ℤ x.lo) (sym whole) g.lo in
    let high = subst (λ x. x.hi ≤ℤ r.hi) (sym whole) g.hi in
    item_added env e items r v (same v refl) (record { from_lo = low; to_hi = high }) g.items_in

items_found : (type : ValueType) (es : List Entry) (env : Environment) (items : OneOrMore Expression) (r : Ends)
    → Meets env es → range_of_items es type items ≡ Some r → AreItems env (as_list items) r
items_found type es env items r meets is =
    let value = value_as es (type_of_values type) items.first in
    first_by env value items.first items.others r (λ v has. value_is_number type es env items.first v meets has)
    (grown type es env (option_map constant value) items.others r meets is)

-- a table holds these numbers, if they are as many as it says and lie in its range
table_by : (type : ValueType) (size : Option ℕ) (count : ℕ) (range : Option Ends) (o : Option (List ℤ))
    → ((r : Ends) → range ≡ Some r
    → (vs : List ℤ) × (o ≡ Some vs) × (length vs ≡ count) × AllByRecursion (InRange r) vs)
    → IsKnown (table_of type size count range)
    → IsSomeAnd (option_map Many o) (IsHeld (table_of type size count range))
table_by type None count range o found known = absurd known
table_by type (Some k) count None o found known = absurd known
table_by type (Some k) count (Some r) o found known = by_count (nat_eq k count) refl known
  where
    by_count : (t : Bool) → nat_eq k count ≡ t
        → IsKnown (cond t (Array array.Table type (Some k) r) (Array array.Table type None (type_range type)))
        → IsSomeAnd (option_map Many o)
        (IsHeld (cond t (Array array.Table type (Some k) r) (Array array.Table type None (type_range type))))
    by_count true is known =
        let same : k ≡ count = grind (arith, nat_tests, is) in
        let h = found r refl in
        subst (λ x. IsSomeAnd (option_map Many x) (IsHeld (Array array.Table type (Some k) r))) (sym h.1)
        (h.2 ∙ sym same, h.3)
    by_count false is known = absurd known

record BytesGrown (q : Ends) (bytes : List ℕ) (r : Ends) : Type 0 where
  lo : r.lo ≤ℤ q.lo
  hi : q.hi ≤ℤ r.hi
  all : AllByRecursion (InRange r) (map pos bytes)

bytes_grown : (q : Ends) (bytes : List ℕ) → BytesGrown q bytes (fold (λ range b. hull range (constant (pos b))) q bytes)
bytes_grown q [] = record { lo = omega (arith, ints); hi = omega (arith, ints); all = tt }
bytes_grown q (b ∷ bytes) =
    let g = bytes_grown (hull q (constant (pos b))) bytes in
    let low = g.lo in
    let high = g.hi in
    record {
      lo = omega (arith, ints, clamps, low);
      hi = omega (arith, ints, clamps, high);
      all = (record { from_lo = omega (arith, ints, clamps, low); to_hi = omega (arith, ints, clamps, high) }, g.all);
    }

long_bytes : (bytes : List ℕ) → length (map pos bytes) ≡ length bytes
long_bytes [] = refl
long_bytes (b ∷ bytes) = ap suc (long_bytes bytes)

bytes_found : (type : ValueType) (bytes : List ℕ) (r : Ends) → range_of_bytes type bytes ≡ Some r
    → AllByRecursion (InRange r) (map pos bytes)
bytes_found value_type.Byte (b ∷ bytes) r is =
    let first = constant (pos b) in
    let g = bytes_grown first bytes in
    let low = g.lo in
    let high = g.hi in
    let same : fold (λ range b. hull range (constant (pos b))) first bytes ≡ r = cc in
    subst (λ x. AllByRecursion (InRange x) (pos b ∷ map pos bytes)) same (record { from_lo = low; to_hi = high }, g.all)
bytes_found value_type.Byte [] r is = absurd (cc is)
bytes_found value_type.Int bytes r is = absurd (cc is)

-- ---- constants

constant_by : (type : ValueType) (o n : Option ℤ) → ((v : ℤ) → o ≡ Some v → n ≡ Some v) → IsKnown (Constant type o)
    → IsSomeAnd (option_map One n) (IsHeld (Constant type o))
constant_by type None n same known = absurd known
constant_by type (Some v) n same known =
    subst (λ x. IsSomeAnd (option_map One x) (IsHeld (Constant type (Some v)))) (sym (same v refl)) refl

constant_held : (es : List Entry) (env : Environment) (type : ValueType) (value : Value) → Meets env es
    → IsKnown (constant_meaning es type value) → IsSomeAnd (held_by env value) (IsHeld (constant_meaning es type value))
constant_held es env type (lines.Scalar e) meets known =
    constant_by type (value_as es (type_of_values type) e) (number_of env e)
    (λ v has. value_is_number type es env e v meets has) known
constant_held es env type (Table size items) meets known =
    table_by type (size_in es size) (length (as_list items)) (range_of_items es type items)
    (numbers_of env (as_list items))
    (λ r is. let a = items_found type es env items r meets is in (a.values, a.numbers, a.long, a.all)) known
constant_held es env type (Bytes size bytes) meets known =
    table_by type (size_in es size) (length bytes) (range_of_bytes type bytes) (Some (map pos bytes))
    (λ r is. (map pos bytes, refl, long_bytes bytes, bytes_found type bytes r is)) known

-- ---- declarations

bound_meets : (names : List (List ℕ)) (m : Meaning) (h : Held) (es : List Entry) (env : Environment) → IsHeld m h
    → Meets env es → Meets (bind_all names h env) (add_all names m es)
bound_meets [] m h es env is meets = meets
bound_meets (name ∷ names) m h es env is meets =
    bound_meets names m h (add name m es) (bind name h env) is (refl, is, meets)

mapped : (o : Option Held) (f : Held → Environment) (P : Held → Type 0) (Q : Environment → Type 0) → IsSomeAnd o P
    → ((h : Held) → P h → Q (f h)) → IsSomeAnd (option_map f o) Q
mapped None f P Q h k = absurd h
mapped (Some x) f P Q h k = k x h

channel_held : (es : List Entry) (type : ValueType) (size : Option Expression)
    → IsHeld (channel_meaning es type size) Nothing
channel_held es type None = tt
channel_held es type (Some e) = tt

pub declarations_hold : DeclarationsHold
declarations_hold es env (Constants c) meets known =
    let m = constant_meaning es c.value_type c.value in
    mapped (held_by env c.value) (λ h. bind c.name h env) (IsHeld m)
    (λ inner. Meets inner (add_declaration (Constants c) es)) (constant_held es env c.value_type c.value meets known)
    (λ h is. (refl, is, meets))
declarations_hold es env (Variables n) meets known =
    let m = variable_meaning es n.value_type n.size in
    mapped (zero_for env n.size) (λ h. bind_all (as_list n.names) h env) (IsHeld m)
    (λ inner. Meets inner (add_declaration (Variables n) es)) (zero_held es env n.value_type n.size meets known)
    (λ h is. bound_meets (as_list n.names) m h es env is meets)
declarations_hold es env (Channels n) meets known =
    bound_meets (as_list n.names) (channel_meaning es n.value_type n.size) Nothing es env
    (channel_held es n.value_type n.size) meets
