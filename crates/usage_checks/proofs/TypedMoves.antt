-- Where each range lies within its type, it does after each move, and where a line declares or changes something.
use Rattle.std.proofs.Common.{◌≡◌, ℕ, suc, ℤ, pos, Bool, true, false, cond, List, [], ◌∷◌, length, Option, Some}
use Rattle.std.proofs.Common.{None, Ok, Err, Result, inl, inr, refl, sym, ap, subst, ◌∙◌, arith, ◌⊎◌}
use Rattle.std.proofs.lemmas.Int.{ints, clamps}
use Rattle.std.specs.Prelude.{nat_eq, nat_lt, fold, option_map, IfSome}
use Rattle.std.specs.List.{list_all}
use Rattle.std.proofs.lemmas.Bool.{and_parts}
use Rattle.word_arithmetic.specs.Range.{Ends, InRange, constant, hull, full, bytes}
use Rattle.occam_layout.specs.Words.{is_byte, are_bytes}
use Rattle.occam_parser.specs.declared.tree.ValueType.{ValueType}
use Rattle.occam_parser.specs.declared.tree.ValueType.TheVariants as value_type
use Rattle.occam_parser.specs.declared.tree.FormalKind.{FormalKind}
use Rattle.occam_parser.specs.declared.tree.FormalKind.TheVariants as formal_kind
use Rattle.occam_parser.specs.OneOrMore.{as_list}
use Rattle.occam_parser.specs.Expressions.{Expression}
use Rattle.occam_parser.specs.Lines as lines
use Rattle.occam_parser.specs.Lines.{Place, Value, Declaration, Constants, Variables, Channels, Action, Skip, Stop}
use Rattle.occam_parser.specs.Lines.{Assign}
use Rattle.occam_parser.specs.Lines.{Input, Output, Instance, Guard, Receives, Skips, Formal}
use Rattle.occam_parser.specs.Words.{has_words, value_has_words, declaration_has_words, place_has_words}
use Rattle.occam_parser.specs.Words.{action_has_words}
use Rattle.scalar_ranges.specs.declared.scope.ScalarKind.{ScalarKind}
use Rattle.scalar_ranges.specs.declared.scope.ScalarKind.TheVariants as kinds
use Rattle.scalar_ranges.specs.declared.scope.ArrayKind.{ArrayKind}
use Rattle.scalar_ranges.specs.declared.scope.ArrayKind.TheVariants as array
use Rattle.scalar_ranges.specs.declared.types.ExprType.{ExprType}
use Rattle.scalar_ranges.specs.declared.types.ExprType.TheVariants as types
use Rattle.scalar_ranges.specs.Entries.{Meaning, Constant, Scalar, Array, Channel, Channels as ManyChannels, Procedure}
use Rattle.scalar_ranges.specs.Entries.{Entry, meaning_in, number_in, type_range}
use Rattle.scalar_ranges.specs.Environments.{item_at}
use Rattle.scalar_ranges.specs.Bounds.{Bound, Exactly, Within, ends, bound_of, exact_value, range_found}
use Rattle.scalar_ranges.specs.Types.{type_of, type_of_values}
use Rattle.scalar_ranges.specs.Narrowing.{with_range, narrow}
use Rattle.scalar_ranges.specs.Moves.{outermost, at_number, with_meaning, ranged, assigned, widened, widened_if}
use Rattle.scalar_ranges.specs.Moves.{is_one_of, widen, hulls, hull_meaning, of_both, taken, ends_with, excluded}
use Rattle.scalar_ranges.specs.MoveLaws.{shape, meaning_at}
use Rattle.scalar_ranges.proofs.MoveLaws.{hull_cases}
use Rattle.scalar_ranges.proofs.Named.{meaning_found}
use Rattle.scalar_ranges.proofs.Parts.{ok_same}
use Rattle.program_uses.specs.Constants.{has_type, value_as, size_in}
use Rattle.program_uses.specs.Declaring.{add, add_all, add_declaration, with_value, range_of_items, range_of_bytes}
use Rattle.program_uses.specs.Declaring.{table_of, constant_meaning, variable_meaning, channel_meaning, passed_meaning}
use Rattle.program_uses.specs.Declaring.{formal_meaning}
use Rattle.program_uses.specs.Instances.{variable_at}
use Rattle.program_uses.specs.Mentions.{is_variable, variable_in}
use Rattle.program_uses.specs.Signatures.{Parameter, parameters_in}
use Rattle.program_meaning.specs.RangesWithin.{RangeWithin, ScalarWithin, MeaningWithin, EntriesWithin}
use Rattle.program_meaning.proofs.MovesWithin.{narrow_within, excluded_within}
use Rattle.program_meaning.proofs.ValuesTyped.{byte_in_range}
use Rattle.usage_checks.specs.declared.wanting.Wanted.TheVariants as wanted
use Rattle.usage_checks.specs.Following.{receive_if, assign_if, passed_to, after_actuals, after_assignment}
use Rattle.usage_checks.specs.Following.{after_action}
use Rattle.usage_checks.specs.Following.{where_holds, after_guard}
use Rattle.usage_checks.specs.Holding.{IsFit, IsTarget, ActionHolds}
use Rattle.usage_checks.specs.PlaceRules.{target_type}
use Rattle.usage_checks.specs.TypedRanges.{IsInType, AreInTypes}
use Rattle.usage_checks.proofs.BoundsTyped.{IsBoundOf, bound_typed}

-- ---- moves

scalar_typed : (m n : Meaning) → ScalarWithin false m n → IsInType n → IsInType m
scalar_typed (Scalar kind type r) (Scalar k t s) h typed = by_range h.2
  where
    by_range : RangeWithin r s ⊎ ((false ≡ true) × (k ≡ kinds.Variable)) → RangeWithin r (type_range type)
    by_range (inl a) =
        let within = subst (λ u. RangeWithin s (type_range u)) (sym h.1) typed in
        (omega (arith, ints, a.0, within.0), omega (arith, ints, a.1, within.1))
    by_range (inr a) = absurd (cc a.0)
scalar_typed (Scalar kind type r) n h typed = absurd h
scalar_typed m n h typed = absurd h

meaning_typed : (m n : Meaning) → MeaningWithin false m n → IsInType n → IsInType m
meaning_typed m n (inl same) typed = subst IsInType (sym same) typed
meaning_typed m n (inr h) typed = scalar_typed m n h typed

-- what is within
pub typed_within : (ds es : List Entry) → EntriesWithin [] ds es → AreInTypes es → AreInTypes ds
typed_within [] [] w typed = tt
typed_within [] (e ∷ es) w typed = absurd w
typed_within (d ∷ ds) [] w typed = absurd w
typed_within (d ∷ ds) (e ∷ es) w typed =
    (meaning_typed d.meaning e.meaning w.1 typed.0, typed_within ds es w.2 typed.1)

pub typed_narrow : (es : List Entry) (e : Expression) (holds : Bool) → AreInTypes es → AreInTypes (narrow es e holds)
typed_narrow es e holds typed = typed_within (narrow es e holds) es (narrow_within [] es e holds) typed

pub typed_excluded : (es ds : List Entry) (e : Expression) → AreInTypes ds → AreInTypes (excluded e es ds)
typed_excluded es ds e typed = typed_within (excluded e es ds) ds (excluded_within [] es ds e) typed

left_by : (t : Bool) (e : Entry) (es ds : List Entry) → AreInTypes (e ∷ es) → AreInTypes ds
    → AreInTypes (cond t (e ∷ es) ds)
left_by true e es ds typed further = typed
left_by false e es ds typed further = further

pub typed_left : (n : ℕ) (es : List Entry) → AreInTypes es → AreInTypes (outermost n es)
typed_left n [] typed = tt
typed_left n (e ∷ es) typed = left_by (nat_lt (length es) n) e es (outermost n es) typed (typed_left n es typed.1)

both_typed : (t : Bool) (d e : Entry) → IsInType d.meaning → IsInType e.meaning → IsInType (of_both t d e).meaning
both_typed true d e h g = g
both_typed false d e h g = h

pub typed_taken : (ns : List ℕ) (ds es : List Entry) → AreInTypes ds → AreInTypes es → AreInTypes (taken ns ds es)
typed_taken ns [] es h g = tt
typed_taken ns (d ∷ ds) [] h g = h
typed_taken ns (d ∷ ds) (e ∷ es) h g =
    (both_typed (is_one_of ns (length ds)) d e h.0 g.0, typed_taken ns ds es h.1 g.1)

-- the hull of two ranges of one type
hull_typed : (m n : Meaning) → with_range (λ r. full) m ≡ with_range (λ r. full) n → IsInType m → IsInType n
    → IsInType (hull_meaning m n)
hull_typed m n same h g =
    hull_cases (λ (a b c : Meaning). with_range (λ r. full) a ≡ with_range (λ r. full) b → IsInType a → IsInType b
    → IsInType c)
    (λ kind k type t r s same h g.
    let one : t ≡ type = cc in
    let within = subst (λ u. RangeWithin s (type_range u)) one g in
    (omega (arith, ints, clamps, h.0, within.0), omega (arith, ints, clamps, h.1, within.1))) (λ a b is same h g. h) m n
    same h g

abbrev first_meaning : Meaning → List Entry → Meaning
first_meaning m [] = m
first_meaning m (e ∷ es) = e.meaning

pub typed_hulls : (ds es : List Entry) → shape ds ≡ shape es → AreInTypes ds → AreInTypes es → AreInTypes (hulls ds es)
typed_hulls [] es same h g = tt
typed_hulls (d ∷ ds) [] same h g = h
typed_hulls (d ∷ ds) (e ∷ es) same h g =
    let rest : shape ds ≡ shape es = cc in
    (hull_typed d.meaning e.meaning (ap (first_meaning d.meaning) same) h.0 g.0, typed_hulls ds es rest h.1 g.1)

abbrev pub EndsInTypes : Option (List Entry) → Type 0
EndsInTypes None = Unit {0}
EndsInTypes (Some es) = AreInTypes es

pub typed_ends : (o : Option (List Entry)) (es : List Entry)
    → ((ds : List Entry) → o ≡ Some ds → shape ds ≡ shape es) → EndsInTypes o → AreInTypes es
    → AreInTypes (ends_with o es)
typed_ends None es same h g = g
typed_ends (Some ds) es same h g = typed_hulls ds es (same ds refl) h g

-- ---- variables

ranged_typed : (range : ValueType → Ends) (m : Meaning) → ((type : ValueType)
    → RangeWithin (range type) (type_range type))
    → IsInType m → IsInType (ranged range m)
ranged_typed range (Scalar kinds.Variable type r) within h = within type
ranged_typed range (Scalar kinds.Value type r) within h = h
ranged_typed range (Scalar kinds.Reference type r) within h = h
ranged_typed range (Scalar kinds.Index type r) within h = h
ranged_typed range (Constant type value) within h = h
ranged_typed range (Array kind type size r) within h = h
ranged_typed range (Channel type) within h = h
ranged_typed range (ManyChannels type size) within h = h
ranged_typed range (Procedure number) within h = h

whole_range : (type : ValueType) → RangeWithin (type_range type) (type_range type)
whole_range type = (omega (arith, ints), omega (arith, ints))

found_by : (t : Bool) (n : ℕ) (m : Meaning) (rest : Option Meaning) → t ≡ true → cond t (Some m) rest ≡ Some m
found_by true n m rest is = refl
found_by false n m rest is = absurd (cc is)

other_by : (t : Bool) (m : Meaning) (rest : Option Meaning) (k : Meaning) → t ≡ false → rest ≡ Some k
    → cond t (Some m) rest ≡ Some k
other_by false m rest k is same = same
other_by true m rest k is same = absurd (cc is)

-- the entry with a number is changed, to what is in its type
at_typed : (f : Meaning → Meaning) (n : ℕ) (es : List Entry) → ((e : Entry) → IsInType e.meaning
    → meaning_at n es ≡ Some e.meaning → IsInType (f e.meaning)) → AreInTypes es
    → AreInTypes (at_number (with_meaning f) n es)
at_typed f n [] h typed = tt
at_typed f n (e ∷ es) h typed = by_number (nat_eq (length es) n) refl (at_typed f n es)
  where
    by_number : (t : Bool) → nat_eq (length es) n ≡ t
        → (((d : Entry) → IsInType d.meaning → meaning_at n es ≡ Some d.meaning → IsInType (f d.meaning))
        → AreInTypes es → AreInTypes (at_number (with_meaning f) n es))
        → AreInTypes (cond t (with_meaning f e ∷ es) (e ∷ at_number (with_meaning f) n es))
    by_number true is further =
        (h e typed.0 (found_by (nat_eq (length es) n) n e.meaning (meaning_at n es) is), typed.1)
    by_number false is further = (
      typed.0,
      further (λ d inside at. h d inside
          (other_by (nat_eq (length es) n) e.meaning (meaning_at n es) d.meaning is at)) typed.1,
    )

pub typed_receive : (o : Option ℕ) (es : List Entry) → AreInTypes es → AreInTypes (receive_if o es)
typed_receive None es typed = typed
typed_receive (Some n) es typed =
    at_typed widened n es (λ e h at. ranged_typed type_range e.meaning whole_range h) typed

free_typed : (t : Bool) (e : Entry) → IsInType e.meaning → IsInType (widened_if t e).meaning
free_typed true e h = ranged_typed type_range e.meaning whole_range h
free_typed false e h = h

pub typed_widen : (ns : List ℕ) (es : List Entry) → AreInTypes es → AreInTypes (widen ns es)
typed_widen ns [] typed = tt
typed_widen ns (e ∷ es) typed = (free_typed (is_one_of ns (length es)) e typed.0, typed_widen ns es typed.1)

-- ---- what is on one line

range_is : (r : Result Bound ℕ) (range : Ends) → range_found r ≡ Ok range
    → (b : Bound) × (r ≡ Ok b) × (ends b ≡ range)
range_is (Ok b) range is = (b, refl, ok_same (ends b) range is)
range_is (Err e) range is = absurd (cc is)

of_values : (type : ValueType) (t : ExprType) (b : Bound) → type_of_values type ≡ t → IsBoundOf t b
    → RangeWithin (ends b) (type_range type)
of_values value_type.Int t b same h = subst (λ u. IsBoundOf u b) (sym same) h
of_values value_type.Byte t b same h = subst (λ u. IsBoundOf u b) (sym same) h

-- the range of what fits lies within the type that it fits
fit_typed : (es : List Entry) (e : Expression) (t : ExprType) (range : Ends) (type : ValueType) → AreInTypes es
    → has_words e ≡ true → IsFit wanted.Anything es e t range → type_of_values type ≡ t
    → RangeWithin range (type_range type)
fit_typed es e t range type typed words fit same =
    let b = range_is (bound_of es e) range fit.range_is in
    subst (λ r. RangeWithin r (type_range type)) b.2
    (of_values type t b.0 same (bound_typed es e t b.0 typed words fit.type_is b.1))

-- a scalar that can be assigned to has the type of what is assigned
scalar_type : (kind : ScalarKind) (type : ValueType) (old : Ends) (t : ExprType)
    → target_type (Some (Scalar kind type old)) false ≡ Ok t → type_of_values type ≡ t
scalar_type kinds.Variable type old t is = ok_same _ t is
scalar_type kinds.Reference type old t is = ok_same _ t is
scalar_type kinds.Value type old t is = absurd (cc is)
scalar_type kinds.Index type old t is = absurd (cc is)

assigned_typed : (m : Meaning) (range : Ends) (t : ExprType) → target_type (Some m) false ≡ Ok t
    → ((type : ValueType) → type_of_values type ≡ t → RangeWithin range (type_range type)) → IsInType m
    → IsInType (assigned range m)
assigned_typed (Scalar kinds.Variable type old) range t is within h =
    within type (scalar_type kinds.Variable type old t is)
assigned_typed (Scalar kinds.Value type old) range t is within h = h
assigned_typed (Scalar kinds.Reference type old) range t is within h = h
assigned_typed (Scalar kinds.Index type old) range t is within h = h
assigned_typed (Constant type value) range t is within h = h
assigned_typed (Array kind type size r) range t is within h = h
assigned_typed (Channel type) range t is within h = h
assigned_typed (ManyChannels type size) range t is within h = h
assigned_typed (Procedure number) range t is within h = h

number_of_variable : (name : List ℕ) (es : List Entry) (n : ℕ) (t : Bool) (o : Option ℕ)
    → cond t o None ≡ Some n → o ≡ Some n
number_of_variable name es n true o is = is
number_of_variable name es n false o is = absurd (cc is)

numbered_assigned : (es : List Entry) (name : List ℕ) (t : ExprType) (range : Ends) (r : Result Ends ℕ) (o : Option ℕ)
    → AreInTypes es → variable_in name es ≡ o → target_type (meaning_in name es) false ≡ Ok t → r ≡ Ok range
    → ((type : ValueType) → type_of_values type ≡ t → RangeWithin range (type_range type))
    → AreInTypes (assign_if o r es)
numbered_assigned es name t range r None typed is target found within = typed
numbered_assigned es name t range r (Some n) typed is target found within =
    let number = number_of_variable name es n (is_variable (meaning_in name es)) (number_in name es) is in
    subst (λ q. AreInTypes (assign_if (Some n) q es)) (sym found)
    (at_typed (assigned range) n es
    (λ e h at. assigned_typed e.meaning range t
    (ap (λ m. target_type m false) (sym (meaning_found name n es number ∙ at)) ∙ target) within h) typed)

assignment_typed : (es : List Entry) (name : List ℕ) (o : Option Expression) (value : Expression) (t : ExprType)
    (range : Ends) → AreInTypes es → has_words value ≡ true
    → IsTarget es (record { name = name; subscript = o }) t → IsFit wanted.Anything es value t range
    → AreInTypes (after_assignment (record { name = name; subscript = o }) value es)
assignment_typed es name None value t range typed words target fit =
    numbered_assigned es name t range (range_found (bound_of es value)) (variable_in name es) typed refl target.type_is
    fit.range_is (λ type same. fit_typed es value t range type typed words fit same)
assignment_typed es name (Some e) value t range typed words target fit = typed

actuals_typed : (qs : List Parameter) (i : ℕ) (actuals : List Expression) (es : List Entry) → AreInTypes es
    → AreInTypes (after_actuals qs i actuals es)
actuals_typed qs i [] es typed = typed
actuals_typed qs i (e ∷ actuals) es typed =
    actuals_typed qs (suc i) actuals (receive_if (passed_to (item_at i qs) es e) es)
    (typed_receive (passed_to (item_at i qs) es e) es typed)

pub action_typed : (signatures : List (List Parameter)) (es : List Entry) (action : Action)
    → action_has_words action ≡ true → ActionHolds signatures es action → AreInTypes es
    → AreInTypes (after_action signatures action es)
action_typed signatures es Skip words h typed = typed
action_typed signatures es Stop words h typed = typed
action_typed signatures es (Assign target value) words h typed =
    assignment_typed es target.name target.subscript value h.0 h.1 typed
    (and_parts (place_has_words target) (has_words value) words).1 h.2 h.3
action_typed signatures es (Input channel target) words h typed = typed_receive (variable_at es target) es typed
action_typed signatures es (Output channel value) words h typed = typed
action_typed signatures es (Instance name actuals) words h typed =
    actuals_typed (parameters_in signatures (meaning_in name es)) 0 actuals es typed

holds_typed : (o : Option Expression) (es : List Entry) → AreInTypes es → AreInTypes (where_holds o es)
holds_typed None es typed = typed
holds_typed (Some e) es typed = typed_narrow es e true typed

pub guard_typed : (g : Guard) (es : List Entry) → AreInTypes es → AreInTypes (after_guard g es)
guard_typed (Receives condition channel target) es typed =
    typed_receive (variable_at (where_holds condition es) target) (where_holds condition es)
    (holds_typed condition es typed)
guard_typed (Skips e) es typed = typed_narrow es e true typed

-- ---- declarations

value_by : (type : ValueType) (t : Result ExprType ℕ) (b : Result Bound ℕ) (v : ℤ)
    → ((s : ExprType) → t ≡ Ok s → b ≡ Ok (Exactly v) → IsBoundOf s (Exactly v))
    → cond (has_type (type_of_values type) t) (exact_value b) None ≡ Some v → InRange (type_range type) v
value_by value_type.Int (Ok types.Int) (Ok (Exactly x)) v h is =
    let same : x ≡ v = cc in
    let w = h types.Int refl (ap (λ y. Ok (Exactly y)) same) in record { from_lo = w.0; to_hi = w.1 }
value_by value_type.Byte (Ok types.Byte) (Ok (Exactly x)) v h is =
    let same : x ≡ v = cc in
    let w = h types.Byte refl (ap (λ y. Ok (Exactly y)) same) in record { from_lo = w.0; to_hi = w.1 }
value_by value_type.Int (Ok types.Int) (Ok (Within r)) v h is = absurd (cc is)
value_by value_type.Int (Ok types.Int) (Err e) v h is = absurd (cc is)
value_by value_type.Byte (Ok types.Byte) (Ok (Within r)) v h is = absurd (cc is)
value_by value_type.Byte (Ok types.Byte) (Err e) v h is = absurd (cc is)
value_by value_type.Int (Ok types.Byte) b v h is = absurd (cc is)
value_by value_type.Int (Ok types.Condition) b v h is = absurd (cc is)
value_by value_type.Byte (Ok types.Int) b v h is = absurd (cc is)
value_by value_type.Byte (Ok types.Condition) b v h is = absurd (cc is)
value_by value_type.Int (Err e) b v h is = absurd (cc is)
value_by value_type.Byte (Err e) b v h is = absurd (cc is)

-- the value of a constant is one of its type
value_typed : (es : List Entry) (type : ValueType) (e : Expression) (v : ℤ) → AreInTypes es → has_words e ≡ true
    → value_as es (type_of_values type) e ≡ Some v → InRange (type_range type) v
value_typed es type e v typed words is =
    value_by type (type_of es e) (bound_of es e) v (λ s t b. bound_typed es e s (Exactly v) typed words t b) is

constant_by : (type : ValueType) (o : Option ℤ) → ((v : ℤ) → o ≡ Some v → InRange (type_range type) v)
    → IsInType (Constant type o)
constant_by type None h = tt
constant_by type (Some v) h = h v refl

abbrev IsRangeOf : ValueType → Option Ends → Type 0
IsRangeOf type o = IfSome o (λ r. RangeWithin r (type_range type))

one_more : (type : ValueType) (o : Option Ends) (value : Option ℤ) → IsRangeOf type o
    → ((v : ℤ) → value ≡ Some v → InRange (type_range type) v) → IsRangeOf type (with_value o value)
one_more type None value h g = tt
one_more type (Some r) None h g = tt
one_more type (Some r) (Some v) h g =
    let w = g v refl in
    let low = w.from_lo in
    let high = w.to_hi in
    (omega (arith, ints, clamps, h.0, low), omega (arith, ints, clamps, h.1, high))

items_typed : (es : List Entry) (type : ValueType) (o : Option Ends) (items : List Expression) → AreInTypes es
    → list_all has_words items ≡ true → IsRangeOf type o
    → IsRangeOf type (fold (λ range e. with_value range (value_as es (type_of_values type) e)) o items)
items_typed es type o [] typed words h = h
items_typed es type o (e ∷ items) typed words h =
    let both = and_parts (has_words e) (list_all has_words items) words in
    let value = value_as es (type_of_values type) e in
    items_typed es type (with_value o value) items typed both.1
    (one_more type o value h (λ v is. value_typed es type e v typed both.0 is))

first_typed : (type : ValueType) (value : Option ℤ) → ((v : ℤ) → value ≡ Some v → InRange (type_range type) v)
    → IsRangeOf type (option_map constant value)
first_typed type None h = tt
first_typed type (Some v) h = let w = h v refl in (w.from_lo, w.to_hi)

bytes_typed : (r : Ends) (bs : List ℕ) → are_bytes bs ≡ true → RangeWithin r bytes
    → RangeWithin (fold (λ range b. hull range (constant (pos b))) r bs) bytes
bytes_typed r [] all h = h
bytes_typed r (b ∷ bs) all h =
    let both = and_parts (is_byte b) (are_bytes bs) all in
    let w = byte_in_range b both.0 in
    let low = w.from_lo in
    let high = w.to_hi in
    bytes_typed (hull r (constant (pos b))) bs both.1
    (omega (arith, ints, clamps, h.0, low), omega (arith, ints, clamps, h.1, high))

text_typed : (type : ValueType) (bs : List ℕ) → are_bytes bs ≡ true → IsRangeOf type (range_of_bytes type bs)
text_typed value_type.Int bs all = tt
text_typed value_type.Byte [] all = tt
text_typed value_type.Byte (b ∷ bs) all =
    let both = and_parts (is_byte b) (are_bytes bs) all in
    let w = byte_in_range b both.0 in
    bytes_typed (constant (pos b)) bs both.1 (w.from_lo, w.to_hi)

table_typed : (type : ValueType) (size : Option ℕ) (count : ℕ) (range : Option Ends) → IsRangeOf type range
    → IsInType (table_of type size count range)
table_typed type None count range h = whole_range type
table_typed type (Some n) count None h = whole_range type
table_typed type (Some n) count (Some r) h = by_count (nat_eq n count)
  where
    by_count : (t : Bool) → IsInType
        (cond t (Array array.Table type (Some n) r) (Array array.Table type None (type_range type)))
    by_count true = h
    by_count false = whole_range type

constant_typed : (es : List Entry) (type : ValueType) (value : Value) → AreInTypes es → value_has_words value ≡ true
    → IsInType (constant_meaning es type value)
constant_typed es type (lines.Scalar e) typed words =
    constant_by type (value_as es (type_of_values type) e) (λ v is. value_typed es type e v typed words is)
constant_typed es type (lines.Table size items) typed words =
    let all = (and_parts (has_words size) (list_all has_words (as_list items)) words).1 in
    let each = and_parts (has_words items.first) (list_all has_words items.others) all in
    let first = value_as es (type_of_values type) items.first in
    table_typed type (size_in es size) _ (range_of_items es type items)
    (items_typed es type (option_map constant first) items.others typed each.1
    (first_typed type first (λ v is. value_typed es type items.first v typed each.0 is)))
constant_typed es type (lines.Bytes size bs) typed words =
    table_typed type (size_in es size) (length bs) (range_of_bytes type bs)
    (text_typed type bs (and_parts (has_words size) (are_bytes bs) words).1)

zero_within : (type : ValueType) → RangeWithin (constant (pos 0)) (type_range type)
zero_within value_type.Int = (omega (arith, ints), omega (arith, ints))
zero_within value_type.Byte = (omega (arith, ints), omega (arith, ints))

variable_typed : (es : List Entry) (type : ValueType) (size : Option Expression)
    → IsInType (variable_meaning es type size)
variable_typed es type None = zero_within type
variable_typed es type (Some e) = whole_range type

channel_typed : (es : List Entry) (type : ValueType) (size : Option Expression)
    → IsInType (channel_meaning es type size)
channel_typed es type None = tt
channel_typed es type (Some e) = tt

all_typed : (names : List (List ℕ)) (m : Meaning) (es : List Entry) → IsInType m → AreInTypes es
    → AreInTypes (add_all names m es)
all_typed [] m es h typed = typed
all_typed (name ∷ names) m es h typed = all_typed names m (add name m es) h (h, typed)

pub declared_typed : (d : Declaration) (es : List Entry) → declaration_has_words d ≡ true → AreInTypes es
    → AreInTypes (add_declaration d es)
declared_typed (Constants c) es words typed = (constant_typed es c.value_type c.value typed words, typed)
declared_typed (Variables n) es words typed =
    all_typed (as_list n.names) (variable_meaning es n.value_type n.size) es (variable_typed es n.value_type n.size)
    typed
declared_typed (Channels n) es words typed =
    all_typed (as_list n.names) (channel_meaning es n.value_type n.size) es (channel_typed es n.value_type n.size) typed

passed_typed : (es : List Entry) (kind : ScalarKind) (many : ArrayKind) (type : ValueType) (size : Option Expression)
    → IsInType (passed_meaning es kind many type size)
passed_typed es kind many type None = whole_range type
passed_typed es kind many type (Some e) = whole_range type

formal_by : (outer : List Entry) (kind : FormalKind) (size : Option Expression) (type : ValueType) (name : List ℕ)
    → IsInType (formal_meaning outer (record { kind = kind; size = size; value_type = type; name = name }))
formal_by outer formal_kind.Value size type name = passed_typed outer kinds.Value array.Value type size
formal_by outer formal_kind.Variable size type name = passed_typed outer kinds.Reference array.Variable type size
formal_by outer formal_kind.Channel size type name = channel_typed outer type size

pub formal_typed : (outer : List Entry) (f : Formal) → IsInType (formal_meaning outer f)
formal_typed outer f = formal_by outer f.kind f.size f.value_type f.name
