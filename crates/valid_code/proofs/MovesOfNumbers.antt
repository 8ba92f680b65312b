-- Where each range in a scope has numbers, it has after each move of the walk.
use Rattle.std.proofs.Common.{◌≡◌, ℕ, ◌&&◌, ℤ, pos, Bool, true, false, cond, List, [], ◌∷◌, length, Option, Some, None}
use Rattle.std.proofs.Common.{Ok, Err, Result, refl, subst, arith}
use Rattle.std.proofs.lemmas.Int.{ints, clamps}
use Rattle.std.specs.Prelude.{bytes_eq, nat_eq, nat_lt, fold, option_map, unwrap_or, int_le, ◌+ℤ◌, ◌-ℤ◌, ◌≤ℤ◌, FitsSigned, IfSome}
use Rattle.std.specs.Int.{int_max, int_min, w32}
use Rattle.std.specs.List.{list_all}
use Rattle.std.proofs.lemmas.Bool.{and_parts}
use Rattle.small_laws.proofs.Comparisons.{int_le-false, int_le-true, le-int_le}
use Rattle.word_arithmetic.specs.Word.{greatest_word, is_word}
use Rattle.word_arithmetic.specs.declared.compare.Comparison.{Comparison}
use Rattle.word_arithmetic.specs.declared.compare.Comparison.TheVariants as comparison
use Rattle.word_arithmetic.specs.Range.{Ends, IsRange, constant, hull, inside, outside, in_range, narrowed}
use Rattle.word_arithmetic.specs.Range.{at_least, at_most, range_between}
use Rattle.word_arithmetic.proofs.WordLaws.{is_word_out}
use Rattle.occam_layout.specs.Words.{is_byte, are_bytes}
use Rattle.occam_parser.specs.declared.tree.ValueType.{ValueType}
use Rattle.occam_parser.specs.declared.tree.ValueType.TheVariants as value_type
use Rattle.occam_parser.specs.OneOrMore.{as_list}
use Rattle.occam_parser.specs.Expressions.{Expression}
use Rattle.occam_parser.specs.Lines as lines
use Rattle.occam_parser.specs.Lines.{Action, Assign, Channels, Constants, Declaration, Input, Instance, Output, Place}
use Rattle.occam_parser.specs.Lines.{Replicator, Skip, Stop, Value, Variables}
use Rattle.occam_parser.specs.Words.{has_words, action_has_words, declaration_has_words, place_has_words}
use Rattle.occam_parser.specs.Words.{value_has_words}
use Rattle.scalar_ranges.specs.declared.scope.ScalarKind.TheVariants as kinds
use Rattle.scalar_ranges.specs.declared.scope.ArrayKind.TheVariants as array
use Rattle.scalar_ranges.specs.declared.types.ExprType.{ExprType}
use Rattle.scalar_ranges.specs.declared.types.ExprType.TheVariants as types
use Rattle.scalar_ranges.specs.Bounds.{Bound, Exactly, Within, bound_of, ends, exact_value, range_found}
use Rattle.scalar_ranges.specs.Entries.{Meaning, Constant, Scalar, Array, Entry, number_in, type_range}
use Rattle.scalar_ranges.specs.Moves.{assigned, at_number, excluded_at, excluded_by, hull_meaning, hulls, is_one_of}
use Rattle.scalar_ranges.specs.Moves.{not_so, outermost, ranged, widen, widened, widened_if, with_meaning}
use Rattle.scalar_ranges.specs.Narrowing.{Tested, as_holds, by_test, changed, left_of, opposite, test_of, with_range}
use Rattle.scalar_ranges.specs.Types.{type_of, type_of_values}
use Rattle.scalar_ranges.proofs.Parts.{ok_same}
use Rattle.program_uses.specs.Constants.{has_type, size_in, value_as}
use Rattle.program_uses.specs.Declaring.{add, add_all, add_declaration, channel_meaning, constant_meaning, range_of_bytes}
use Rattle.program_uses.specs.Declaring.{range_of_items, table_of, variable_meaning, with_value}
use Rattle.program_uses.specs.Indices.{index_at, index_of, index_range, is_count, repeats_of}
use Rattle.program_uses.specs.Instances.{variable_at}
use Rattle.program_uses.specs.Signatures.{Parameter}
use Rattle.program_meaning.specs.Sequential.{IsSequentialAction}
use Rattle.program_meaning.proofs.ValuesTyped.{byte_in_range}
use Rattle.usage_checks.specs.Following.{after_action, assign_if, receive_if}
use Rattle.valid_code.specs.Numbers.{HasNumbers, HaveNumbers, MovesKeepNumbers}
use Rattle.valid_code.proofs.BoundsOfNumbers.{all_words, between_is_range, bounds_have_numbers, of_a_type, one_number}

-- ---- ranges

hull_has : (r s : Ends) → IsRange r → IsRange s → IsRange (hull r s)
hull_has r s h g =
    let a = h.ordered in
    let b = h.lo_fits in
    let c = h.hi_fits in
    let d = g.lo_fits in
    let e = g.hi_fits in
    record {
      lo_fits = omega (arith, ints, clamps, b, d);
      hi_fits = omega (arith, ints, clamps, c, e);
      ordered = omega (arith, ints, clamps, a);
    }

inside_by : (b : Bool) (r both : Ends) → int_le both.lo both.hi ≡ b → r.lo ≤ℤ both.lo → both.hi ≤ℤ r.hi → IsRange r
    → IsRange (cond b both r)
inside_by true r both is low high h =
    let up = int_le-true both.lo both.hi is in
    let a = h.lo_fits in
    let b = h.hi_fits in
    record {
      lo_fits = omega (arith, ints, low, high, up, a, b);
      hi_fits = omega (arith, ints, low, high, up, a, b);
      ordered = up;
    }
inside_by false r both is low high h = h

inside_has : (r kept : Ends) → IsRange r → IsRange (inside r kept)
inside_has r kept h =
    let both : Ends = record { lo = int_max r.lo kept.lo; hi = int_min r.hi kept.hi } in
    inside_by (int_le both.lo both.hi) r both refl (omega (arith, ints, clamps)) (omega (arith, ints, clamps)) h

second_false : (a b : Bool) → a ≡ true → (a && b) ≡ false → b ≡ false
second_false true b is not = not
second_false false b is not = absurd (cc)

first_false : (a b : Bool) → b ≡ true → (a && b) ≡ false → a ≡ false
first_false true b is not = absurd (cc)
first_false false b is not = refl

outside_by : (a b : Bool) (r removed : Ends) → in_range removed r.lo ≡ a → in_range removed r.hi ≡ b → IsRange r
    → IsRange (cond a (cond b r (record { lo = removed.hi +ℤ pos 1; hi = r.hi }))
    (cond b (record { lo = r.lo; hi = removed.lo -ℤ pos 1 }) r))
outside_by true true r removed at_lo at_hi h = h
outside_by false false r removed at_lo at_hi h = h
outside_by true false r removed at_lo at_hi h =
    let parts = and_parts (int_le removed.lo r.lo) (int_le r.lo removed.hi) at_lo in
    let low = int_le-true removed.lo r.lo parts.0 in
    let over = int_le-true r.lo removed.hi parts.1 in
    let up = h.ordered in
    let not = second_false (int_le removed.lo r.hi) (int_le r.hi removed.hi)
    (le-int_le removed.lo r.hi (omega (arith, ints, low, up))) at_hi in
    let above = int_le-false r.hi removed.hi not in
    let a = h.lo_fits in
    let b = h.hi_fits in
    record { lo_fits = omega (arith, ints, over, above, a, b); hi_fits = b; ordered = omega (arith, ints, above) }
outside_by false true r removed at_lo at_hi h =
    let parts = and_parts (int_le removed.lo r.hi) (int_le r.hi removed.hi) at_hi in
    let low = int_le-true removed.lo r.hi parts.0 in
    let over = int_le-true r.hi removed.hi parts.1 in
    let up = h.ordered in
    let not = first_false (int_le removed.lo r.lo) (int_le r.lo removed.hi)
    (le-int_le r.lo removed.hi (omega (arith, ints, over, up))) at_lo in
    let above = int_le-false removed.lo r.lo not in
    let a = h.lo_fits in
    let b = h.hi_fits in
    record { lo_fits = a; hi_fits = omega (arith, ints, low, above, a, b); ordered = omega (arith, ints, above) }

outside_has : (r removed : Ends) → IsRange r → IsRange (outside r removed)
outside_has r removed h = outside_by (in_range removed r.lo) (in_range removed r.hi) r removed refl refl h

narrowed_has : (c : Comparison) (v : ℤ) (r : Ends) → IsRange r → IsRange (narrowed c v r)
narrowed_has comparison.Equal v r h = inside_has r (constant v) h
narrowed_has comparison.NotEqual v r h = outside_has r (constant v) h
narrowed_has comparison.Less v r h = outside_has r (at_least v) h
narrowed_has comparison.LessOrEqual v r h = inside_has r (at_most v) h
narrowed_has comparison.Greater v r h = outside_has r (at_most v) h
narrowed_has comparison.GreaterOrEqual v r h = inside_has r (at_least v) h

left_if : (c : Comparison) (v : ℤ) (r : Ends) (o : Option Ends) → range_between r.lo r.hi ≡ o → IsRange r
    → IsRange (unwrap_or (option_map (narrowed c v) o) r)
left_if c v r None is h = h
left_if c v r (Some s) is h = narrowed_has c v s (between_is_range r.lo r.hi s is)

left_has : (c : Comparison) (v : ℤ) (r : Ends) → IsRange r → IsRange (left_of c v r)
left_has c v r h = left_if c v r (range_between r.lo r.hi) refl h

-- ---- meanings and entries

with_range_has : (f : Ends → Ends) → ((r : Ends) → IsRange r → IsRange (f r)) → (m : Meaning) → HasNumbers m
    → HasNumbers (with_range f m)
with_range_has f keeps (Scalar kind type range) has = keeps range has
with_range_has f keeps m has = has

ranged_has : (range : ValueType → Ends) → ((type : ValueType) → IsRange (range type)) → (m : Meaning) → HasNumbers m
    → HasNumbers (ranged range m)
ranged_has range keeps (Scalar kinds.Variable type old) has = keeps type
ranged_has range keeps m has = has

changed_by : (b : Bool) (f : Ends → Ends) (e : Entry) (es ds : List Entry)
    → ((r : Ends) → IsRange r → IsRange (f r)) → HaveNumbers (e ∷ es) → HaveNumbers ds
    → HaveNumbers (cond b (record { name = e.name; meaning = with_range f e.meaning } ∷ es) (e ∷ ds))
changed_by true f e es ds keeps have rest = (with_range_has f keeps e.meaning have.0, have.1)
changed_by false f e es ds keeps have rest = (have.0, rest)

changed_has : (f : Ends → Ends) (name : List ℕ) (es : List Entry) → ((r : Ends) → IsRange r → IsRange (f r))
    → HaveNumbers es → HaveNumbers (changed f name es)
changed_has f name [] keeps have = tt
changed_has f name (e ∷ es) keeps have =
    changed_by (bytes_eq e.name name) f e es (changed f name es) keeps have (changed_has f name es keeps have.1)

numbered_by : (b : Bool) (f : Meaning → Meaning) (e : Entry) (es ds : List Entry)
    → ((m : Meaning) → HasNumbers m → HasNumbers (f m)) → HaveNumbers (e ∷ es) → HaveNumbers ds
    → HaveNumbers (cond b (with_meaning f e ∷ es) (e ∷ ds))
numbered_by true f e es ds keeps have rest = (keeps e.meaning have.0, have.1)
numbered_by false f e es ds keeps have rest = (have.0, rest)

numbered_has : (f : Meaning → Meaning) (n : ℕ) (es : List Entry) → ((m : Meaning) → HasNumbers m → HasNumbers (f m))
    → HaveNumbers es → HaveNumbers (at_number (with_meaning f) n es)
numbered_has f n [] keeps have = tt
numbered_has f n (e ∷ es) keeps have =
    numbered_by (nat_eq (length es) n) f e es (at_number (with_meaning f) n es) keeps have
    (numbered_has f n es keeps have.1)

-- ---- tests

tested_has : (es : List Entry) (holds : Bool) (o : Option Tested) → HaveNumbers es → HaveNumbers (by_test es holds o)
tested_has es holds None have = have
tested_has es holds (Some t) have =
    changed_has (left_of (as_holds holds t.comparison) t.constant) t.name es
    (left_has (as_holds holds t.comparison) t.constant) have

excluded_there : (o : Option ℕ) (t : Tested) (ds : List Entry) → HaveNumbers ds → HaveNumbers (excluded_at o t ds)
excluded_there None t ds have = have
excluded_there (Some n) t ds have =
    numbered_has (not_so t) n ds
    (with_range_has (left_of (opposite t.comparison) t.constant) (left_has (opposite t.comparison) t.constant)) have

excluded_has : (o : Option Tested) (es ds : List Entry) → HaveNumbers ds → HaveNumbers (excluded_by o es ds)
excluded_has None es ds have = have
excluded_has (Some t) es ds have = excluded_there (number_in t.name es) t ds have

-- ---- variables and branches

widened_has : (m : Meaning) → HasNumbers m → HasNumbers (widened m)
widened_has m has = ranged_has type_range of_a_type m has

widened_by : (b : Bool) (e : Entry) → HasNumbers e.meaning → HasNumbers (widened_if b e).meaning
widened_by true e has = widened_has e.meaning has
widened_by false e has = has

widen_has : (ns : List ℕ) (es : List Entry) → HaveNumbers es → HaveNumbers (widen ns es)
widen_has ns [] have = tt
widen_has ns (e ∷ es) have = (widened_by (is_one_of ns (length es)) e have.0, widen_has ns es have.1)

joined_has : (m n : Meaning) → HasNumbers m → HasNumbers n → HasNumbers (hull_meaning m n)
joined_has (Scalar kind type r) (Scalar k t s) h g = hull_has r s h g
joined_has (Scalar kind type r) n h g = h
joined_has m n h g = h

hulls_have : (ds es : List Entry) → HaveNumbers ds → HaveNumbers es → HaveNumbers (hulls ds es)
hulls_have [] es h g = tt
hulls_have (d ∷ ds) [] h g = h
hulls_have (d ∷ ds) (e ∷ es) h g = (joined_has d.meaning e.meaning h.0 g.0, hulls_have ds es h.1 g.1)

left_by : (b : Bool) (e : Entry) (es ds : List Entry) → HaveNumbers (e ∷ es) → HaveNumbers ds
    → HaveNumbers (cond b (e ∷ es) ds)
left_by true e es ds have rest = have
left_by false e es ds have rest = rest

outermost_have : (n : ℕ) (es : List Entry) → HaveNumbers es → HaveNumbers (outermost n es)
outermost_have n [] have = tt
outermost_have n (e ∷ es) have =
    left_by (nat_lt (length es) n) e es (outermost n es) have (outermost_have n es have.1)

-- ---- actions

found_range : (r : Result Bound ℕ) (range : Ends) → range_found r ≡ Ok range → ((b : Bound) → r ≡ Ok b → IsRange (ends b))
    → IsRange range
found_range (Ok b) range is has = subst IsRange (ok_same (ends b) range is) (has b refl)
found_range (Err e) range is has = absurd (cc)

received_has : (o : Option ℕ) (es : List Entry) → HaveNumbers es → HaveNumbers (receive_if o es)
received_has None es have = have
received_has (Some n) es have = numbered_has widened n es widened_has have

assigned_if : (o : Option ℕ) (r : Result Ends ℕ) (es : List Entry) → ((range : Ends) → r ≡ Ok range → IsRange range)
    → HaveNumbers es → HaveNumbers (assign_if o r es)
assigned_if None r es has have = have
assigned_if (Some n) (Ok range) es has have =
    numbered_has (assigned range) n es (ranged_has (λ type. range) (λ type. has range refl)) have
assigned_if (Some n) (Err e) es has have = received_has (Some n) es have

action_has : (signatures : List (List Parameter)) (action : Action) (es : List Entry) → IsSequentialAction action
    → action_has_words action ≡ true → HaveNumbers es → HaveNumbers (after_action signatures action es)
action_has signatures Skip es seq words have = have
action_has signatures Stop es seq words have = have
action_has signatures (Assign target value) es seq words have =
    let literals = (and_parts (place_has_words target) (has_words value) words).1 in
    assigned_if (variable_at es target) (range_found (bound_of es value)) es
    (λ range is. found_range (bound_of es value) range is (λ b at. bounds_have_numbers es value b have literals at)) have
action_has signatures (Input channel target) es seq words have = received_has (variable_at es target) es have
action_has signatures (Output channel value) es seq words have = have
action_has signatures (Instance name actuals) es seq words have = absurd seq

-- ---- declarations

exact_has : (r : Result Bound ℕ) (v : ℤ) → exact_value r ≡ Some v → ((b : Bound) → r ≡ Ok b → IsRange (ends b))
    → FitsSigned w32 v
exact_has (Ok (Exactly x)) v is has =
    let same : x ≡ v = cc in
    subst (FitsSigned w32) same (has (Exactly x) refl).lo_fits
exact_has (Ok (Within r)) v is has = absurd (cc)
exact_has (Err e) v is has = absurd (cc)

-- the value of a constant is a word
pub value_has : (es : List Entry) (t : ExprType) (e : Expression) (v : ℤ) → HaveNumbers es → has_words e ≡ true
    → value_as es t e ≡ Some v → FitsSigned w32 v
value_has es t e v have words is =
    exact_has (bound_of es e) v (value_by (has_type t (type_of es e)) (exact_value (bound_of es e)) v is)
    (λ b at. bounds_have_numbers es e b have words at)
  where
    value_by : (b : Bool) (o : Option ℤ) (v : ℤ) → cond b o None ≡ Some v → o ≡ Some v
    value_by true o v is = is
    value_by false o v is = absurd (cc)

constant_by : (type : ValueType) (o : Option ℤ) → ((v : ℤ) → o ≡ Some v → FitsSigned w32 v)
    → HasNumbers (Constant type o)
constant_by type None fits = tt
constant_by type (Some v) fits = fits v refl

-- a range of items has numbers, if there is one
abbrev RangeHas : Option Ends → Type 0
RangeHas o = IfSome o IsRange

one_more : (o : Option Ends) (value : Option ℤ) → RangeHas o → ((v : ℤ) → value ≡ Some v → FitsSigned w32 v)
    → RangeHas (with_value o value)
one_more None value h fits = tt
one_more (Some r) None h fits = tt
one_more (Some r) (Some v) h fits = hull_has r (constant v) h (one_number v (fits v refl))

items_have : (es : List Entry) (type : ValueType) (o : Option Ends) (items : List Expression) → HaveNumbers es
    → list_all has_words items ≡ true → RangeHas o
    → RangeHas (fold (λ range e. with_value range (value_as es (type_of_values type) e)) o items)
items_have es type o [] have words h = h
items_have es type o (e ∷ items) have words h =
    let both = and_parts (has_words e) (list_all has_words items) words in
    let value = value_as es (type_of_values type) e in
    items_have es type (with_value o value) items have both.1
    (one_more o value h (λ v is. value_has es (type_of_values type) e v have both.0 is))

first_has : (value : Option ℤ) → ((v : ℤ) → value ≡ Some v → FitsSigned w32 v) → RangeHas (option_map constant value)
first_has None fits = tt
first_has (Some v) fits = one_number v (fits v refl)

byte_fits : (b : ℕ) → is_byte b ≡ true → FitsSigned w32 (pos b)
byte_fits b is =
    let within = byte_in_range b is in
    let low = within.from_lo in
    let high = within.to_hi in
    omega (arith, ints, low, high)

bytes_have : (r : Ends) (bs : List ℕ) → are_bytes bs ≡ true → IsRange r
    → IsRange (fold (λ range b. hull range (constant (pos b))) r bs)
bytes_have r [] all h = h
bytes_have r (b ∷ bs) all h =
    let both = and_parts (is_byte b) (are_bytes bs) all in
    bytes_have (hull r (constant (pos b))) bs both.1
    (hull_has r (constant (pos b)) h (one_number (pos b) (byte_fits b both.0)))

text_has : (type : ValueType) (bs : List ℕ) → are_bytes bs ≡ true → RangeHas (range_of_bytes type bs)
text_has value_type.Int bs all = tt
text_has value_type.Byte [] all = tt
text_has value_type.Byte (b ∷ bs) all =
    let both = and_parts (is_byte b) (are_bytes bs) all in
    bytes_have (constant (pos b)) bs both.1 (one_number (pos b) (byte_fits b both.0))

table_by : (b : Bool) (type : ValueType) (n : ℕ) (r : Ends) → IsRange r
    → HasNumbers (cond b (Array array.Table type (Some n) r) (Array array.Table type None (type_range type)))
table_by true type n r h = h
table_by false type n r h = of_a_type type

table_has : (type : ValueType) (size : Option ℕ) (count : ℕ) (range : Option Ends) → RangeHas range
    → HasNumbers (table_of type size count range)
table_has type None count range h = of_a_type type
table_has type (Some n) count None h = of_a_type type
table_has type (Some n) count (Some r) h = table_by (nat_eq n count) type n r h

constant_has : (es : List Entry) (type : ValueType) (value : Value) → HaveNumbers es → value_has_words value ≡ true
    → HasNumbers (constant_meaning es type value)
constant_has es type (lines.Scalar e) have words =
    constant_by type (value_as es (type_of_values type) e)
    (λ v is. value_has es (type_of_values type) e v have words is)
constant_has es type (lines.Table size items) have words =
    let all = (and_parts (has_words size) (list_all has_words (as_list items)) words).1 in
    let each = and_parts (has_words items.first) (list_all has_words items.others) all in
    let first = value_as es (type_of_values type) items.first in
    table_has type (size_in es size) _ (range_of_items es type items)
    (items_have es type (option_map constant first) items.others have each.1
    (first_has first (λ v is. value_has es (type_of_values type) items.first v have each.0 is)))
constant_has es type (lines.Bytes size bs) have words =
    table_has type (size_in es size) (length bs) (range_of_bytes type bs)
    (text_has type bs (and_parts (has_words size) (are_bytes bs) words).1)

pub variable_has : (es : List Entry) (type : ValueType) (size : Option Expression) → HasNumbers (variable_meaning es type size)
variable_has es type None = one_number (pos 0) (omega (arith, ints))
variable_has es type (Some e) = of_a_type type

pub channel_has : (es : List Entry) (type : ValueType) (size : Option Expression) → HasNumbers (channel_meaning es type size)
channel_has es type None = tt
channel_has es type (Some e) = tt

all_have : (names : List (List ℕ)) (m : Meaning) (es : List Entry) → HasNumbers m → HaveNumbers es
    → HaveNumbers (add_all names m es)
all_have [] m es has have = have
all_have (name ∷ names) m es has have = all_have names m (add name m es) has (has, have)

declared_has : (d : Declaration) (es : List Entry) → declaration_has_words d ≡ true → HaveNumbers es
    → HaveNumbers (add_declaration d es)
declared_has (Constants c) es words have = (constant_has es c.value_type c.value have words, have)
declared_has (Variables n) es words have =
    all_have (as_list n.names) (variable_meaning es n.value_type n.size) es (variable_has es n.value_type n.size) have
declared_has (Channels n) es words have =
    all_have (as_list n.names) (channel_meaning es n.value_type n.size) es (channel_has es n.value_type n.size) have

-- ---- indices

range_by : (b : Bool) (base count : ℤ) → is_count base count ≡ b → FitsSigned w32 base
    → IsRange (cond b (record { lo = base; hi = base +ℤ (count -ℤ pos 1) }) (constant base))
range_by true base count is fits =
    let both = and_parts (int_le (pos 1) count) (int_le (base +ℤ count) (greatest_word +ℤ pos 1)) is in
    let some = int_le-true (pos 1) count both.0 in
    let last = int_le-true (base +ℤ count) (greatest_word +ℤ pos 1) both.1 in
    record {
      lo_fits = fits;
      hi_fits = omega (arith, ints, some, last, fits);
      ordered = omega (arith, ints, some);
    }
range_by false base count is fits = one_number base fits

indices_have : (b c : Option ℤ) → ((v : ℤ) → b ≡ Some v → FitsSigned w32 v) → IsRange (index_range b c)
indices_have (Some base) (Some count) fits = range_by (is_count base count) base count refl (fits base refl)
indices_have (Some base) None fits = all_words
indices_have None c fits = all_words

checked_has : (b : Bool) (v : ℤ) → is_word v ≡ b → HasNumbers (Constant value_type.Int (cond b (Some v) None))
checked_has true v is = is_word_out v is
checked_has false v is = tt

turn_has : (first : Option ℤ) (n : ℕ) → HasNumbers (Constant value_type.Int (index_at first n))
turn_has None n = tt
turn_has (Some v) n = checked_has (is_word (v +ℤ pos n)) (v +ℤ pos n) refl

index_has : (sequential : Bool) (range : Ends) (first : Option ℤ) (n : ℕ) → IsRange range
    → HasNumbers (index_of sequential range (index_at first n))
index_has true range first n h = h
index_has false range first n h = turn_has first n

pub moves_keep_numbers : MovesKeepNumbers
moves_keep_numbers = record {
  narrowing = λ es e holds have. tested_has es holds (test_of es e) have;
  excluding = λ es ds e have. excluded_has (test_of es e) es ds have;
  widening = widen_has;
  joining = hulls_have;
  leaving = outermost_have;
  acting = action_has;
  declaring = declared_has;
  indexing = λ counted sequential r es turn words have.
      let both = and_parts (has_words r.base) (has_words r.count) words in
      let base = value_as es types.Int r.base in
      let count = value_as es types.Int r.count in
      index_has sequential (index_range base count) (repeats_of counted es sequential r).turns.first turn
      (indices_have base count (λ v is. value_has es types.Int r.base v have both.0 is));
}
