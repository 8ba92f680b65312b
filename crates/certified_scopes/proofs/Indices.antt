-- Moves within a scope leave the ranges of indices as they are.
use Rattle.std.proofs.Common.{◌≡◌, ℕ, suc, ◌≤◌, Bool, true, false, cond, List, [], ◌∷◌, length, Option}
use Rattle.std.proofs.Common.{Some, None, Result, Ok, Err, refl, sym, ap, subst, ◌∙◌, arith, nat_eq, nat_lt, bytes_eq}
use Rattle.std.specs.Prelude.{option_map}
use Rattle.std.proofs.lemmas.Bool.Decides.{nat_tests}
use Rattle.std.proofs.lemmas.Int.{ints, clamps}
use Rattle.word_arithmetic.specs.Range.{Ends, hull}
use Rattle.occam_parser.specs.declared.tree.ValueType.{ValueType}
use Rattle.occam_parser.specs.declared.tree.PairOperator.TheVariants as pair
use Rattle.occam_parser.specs.Expressions.{Expression, Paired}
use Rattle.occam_parser.specs.Lines.{Action, Skip, Stop, Assign, Input, Output, Instance}
use Rattle.scalar_ranges.specs.declared.scope.ScalarKind.{ScalarKind}
use Rattle.scalar_ranges.specs.declared.scope.ScalarKind.TheVariants as kinds
use Rattle.scalar_ranges.specs.Entries.{Meaning, Constant, Scalar, Array, Channel, Channels, Procedure, Entry}
use Rattle.scalar_ranges.specs.Entries.{meaning_in, number_in, type_range}
use Rattle.scalar_ranges.specs.Bounds.{bound_of, range_found}
use Rattle.scalar_ranges.specs.Environments.{item_at}
use Rattle.scalar_ranges.specs.MoveLaws.{shape, meaning_at}
use Rattle.scalar_ranges.specs.Moves.{outermost, at_number, with_meaning, ranged, widened_if, is_one_of, widen}
use Rattle.scalar_ranges.specs.Moves.{hull_meaning, hulls, excluded_at, excluded_by}
use Rattle.scalar_ranges.specs.Narrowing.{Tested, test_of, is_narrowed}
use Rattle.scalar_ranges.specs.Narrowing.{with_range}
use Rattle.scalar_ranges.specs.Narrowing.{changed, by_test, left_of, as_holds, opposite, narrow}
use Rattle.scalar_ranges.proofs.MoveLaws.{flat, hull_cases}
use Rattle.scalar_ranges.proofs.Named.{meaning_found}
use Rattle.scalar_ranges.proofs.Nesting.{long_alike}
use Rattle.program_uses.specs.Instances.{variable_at}
use Rattle.program_uses.specs.Signatures.{Parameter, parameters_in}
use Rattle.usage_checks.specs.Following.{receive_if, assign_if, passed_to, after_actuals, after_action}
use Rattle.certified_lines.proofs.Conditions.{left, right, sides_of}
use Rattle.certified_scopes.specs.Within.{index_of_loop, indices_of, IndicesStay}

-- ---- one entry

ranged_index : (range : ValueType → Ends) (m : Meaning) → index_of_loop (ranged range m) ≡ index_of_loop m
ranged_index range (Scalar kinds.Variable type r) = refl
ranged_index range (Scalar kinds.Value type r) = refl
ranged_index range (Scalar kinds.Reference type r) = refl
ranged_index range (Scalar kinds.Index type r) = refl
ranged_index range (Constant type value) = refl
ranged_index range (Array kind type size r) = refl
ranged_index range (Channel type) = refl
ranged_index range (Channels type size) = refl
ranged_index range (Procedure number) = refl

-- what a condition narrows is no index
narrowed_index : (f : Ends → Ends) (m : Meaning) → is_narrowed (Some m) ≡ true
    → index_of_loop (with_range f m) ≡ index_of_loop m
narrowed_index f (Scalar kinds.Variable type r) narrows = refl
narrowed_index f (Scalar kinds.Value type r) narrows = refl
narrowed_index f (Scalar kinds.Reference type r) narrows = refl
narrowed_index f (Scalar kinds.Index type r) narrows = absurd (cc narrows)
narrowed_index f (Constant type value) narrows = refl
narrowed_index f (Array kind type size r) narrows = refl
narrowed_index f (Channel type) narrows = refl
narrowed_index f (Channels type size) narrows = refl
narrowed_index f (Procedure number) narrows = refl

index_first : (d e : Option Ends) (ds es : List (Option Ends)) → ◌≡◌ {A = List (Option Ends)} (d ∷ ds) (e ∷ es) → d ≡ e
index_first d e ds es same = cc

index_rest : (d e : Option Ends) (ds es : List (Option Ends)) → ◌≡◌ {A = List (Option Ends)} (d ∷ ds) (e ∷ es)
    → ds ≡ es
index_rest d e ds es same = cc

pub index_there : (d e : Entry) (ds es : List Entry) → indices_of (d ∷ ds) ≡ indices_of (e ∷ es)
    → (index_of_loop d.meaning ≡ index_of_loop e.meaning) × (indices_of ds ≡ indices_of es)
index_there d e ds es same = (
  index_first (index_of_loop d.meaning) (index_of_loop e.meaning) (indices_of ds) (indices_of es) same,
  index_rest (index_of_loop d.meaning) (index_of_loop e.meaning) (indices_of ds) (indices_of es) same,
)

-- ---- conditions

-- what is tested is narrowed
pub test_narrows : (es : List Entry) (e : Expression) (test : Tested) → test_of es e ≡ Some test
    → is_narrowed (meaning_in test.name es) ≡ true
test_narrows es (Paired (pair.Comparison c) a b) test is = elim (sides_of es c a b test is) [
  | left first ↦ first.narrows
  | right second ↦ second.narrows
]
test_narrows es e test is = absurd (cc is)

changed_by : (t : Bool) (f : Ends → Ends) (name : List ℕ) (e : Entry) (es : List Entry)
    → is_narrowed (cond t (Some e.meaning) (meaning_in name es)) ≡ true
    → (is_narrowed (meaning_in name es) ≡ true → indices_of (changed f name es) ≡ indices_of es)
    → indices_of (cond t (record { name = e.name; meaning = with_range f e.meaning } ∷ es) (e ∷ changed f name es))
    ≡ indices_of (e ∷ es)
changed_by true f name e es narrows further =
    ap (λ (o : Option Ends). o ∷ indices_of es) (narrowed_index f e.meaning narrows)
changed_by false f name e es narrows further =
    ap (λ (os : List (Option Ends)). index_of_loop e.meaning ∷ os) (further narrows)

changed_indices : (f : Ends → Ends) (name : List ℕ) (es : List Entry) → is_narrowed (meaning_in name es) ≡ true
    → indices_of (changed f name es) ≡ indices_of es
changed_indices f name [] narrows = refl
changed_indices f name (e ∷ es) narrows =
    changed_by (bytes_eq e.name name) f name e es narrows (changed_indices f name es)

narrow_by : (o : Option Tested) (es : List Entry) (e : Expression) (holds : Bool) → test_of es e ≡ o
    → indices_of (by_test es holds o) ≡ indices_of es
narrow_by None es e holds is = refl
narrow_by (Some t) es e holds is =
    changed_indices (left_of (as_holds holds t.comparison) t.constant) t.name es (test_narrows es e t is)

narrow_indices : (es : List Entry) (e : Expression) (holds : Bool) → indices_of (narrow es e holds) ≡ indices_of es
narrow_indices es e holds = narrow_by (test_of es e) es e holds refl

-- ---- by number

at_by : (t : Bool) (f : Meaning → Meaning) (n : ℕ) (e : Entry) (es : List Entry)
    → (t ≡ true → index_of_loop (f e.meaning) ≡ index_of_loop e.meaning)
    → (t ≡ false → indices_of (at_number (with_meaning f) n es) ≡ indices_of es)
    → indices_of (cond t (with_meaning f e ∷ es) (e ∷ at_number (with_meaning f) n es)) ≡ indices_of (e ∷ es)
at_by true f n e es here further = ap (λ (o : Option Ends). o ∷ indices_of es) (here refl)
at_by false f n e es here further = ap (λ (os : List (Option Ends)). index_of_loop e.meaning ∷ os) (further refl)

at_indices : (f : Meaning → Meaning) (n : ℕ) (es : List Entry)
    → ((m : Meaning) → index_of_loop (f m) ≡ index_of_loop m)
    → indices_of (at_number (with_meaning f) n es) ≡ indices_of es
at_indices f n [] same = refl
at_indices f n (e ∷ es) same =
    at_by (nat_eq (length es) n) f n e es (λ is. same e.meaning) (λ is. at_indices f n es same)

change_indices : (n : ℕ) (range : ValueType → Ends) (es : List Entry)
    → indices_of (at_number (with_meaning (ranged range)) n es) ≡ indices_of es
change_indices n range es = at_indices (ranged range) n es (ranged_index range)

-- ---- entries around a block

-- if there is one with this number, it is one that conditions narrow
abbrev IsNarrowedIfAny : Option Meaning → Type 0
IsNarrowedIfAny None = Unit {0}
IsNarrowedIfAny (Some m) = is_narrowed (Some m) ≡ true

if_any : (o : Option Meaning) → is_narrowed o ≡ true → IsNarrowedIfAny o
if_any None narrows = tt
if_any (Some m) narrows = narrows

-- conditions narrow by kinds alone
flat_narrows : (m : Meaning) → is_narrowed (Some (flat m)) ≡ is_narrowed (Some m)
flat_narrows (Scalar kind type r) = refl
flat_narrows (Constant type value) = refl
flat_narrows (Array kind type size r) = refl
flat_narrows (Channel type) = refl
flat_narrows (Channels type size) = refl
flat_narrows (Procedure number) = refl

flat_if_any : (o p : Option Meaning) → option_map flat o ≡ option_map flat p → IsNarrowedIfAny p → IsNarrowedIfAny o
flat_if_any None p same narrows = tt
flat_if_any (Some m) None same narrows = absurd (cc same)
flat_if_any (Some m) (Some n) same narrows =
    let one : flat m ≡ flat n = cc in
    sym (flat_narrows m) ∙ ap (λ (k : Meaning). is_narrowed (Some k)) one ∙ flat_narrows n ∙ narrows

-- the same scopes but for ranges have the same at each number, but for ranges
there_by : (t : Bool) (d e : Entry) (ds es : List Entry) (n : ℕ) → flat d.meaning ≡ flat e.meaning
    → option_map flat (meaning_at n ds) ≡ option_map flat (meaning_at n es)
    → option_map flat (cond t (Some d.meaning) (meaning_at n ds))
    ≡ option_map flat (cond t (Some e.meaning) (meaning_at n es))
there_by true d e ds es n here further = ap (λ (m : Meaning). Some m) here
there_by false d e ds es n here further = further

abbrev flat_entry : Entry → Entry
flat_entry e = record { name = e.name; meaning = flat e.meaning }

head_flat : (d e : Entry) (ds es : List Entry) → ◌≡◌ {A = List Entry} (flat_entry d ∷ ds) (flat_entry e ∷ es)
    → flat d.meaning ≡ flat e.meaning
head_flat d e ds es same =
    let first : flat_entry d ≡ flat_entry e = cc in
    ap (λ (x : Entry). x.meaning) first

tail_flat : (d e : Entry) (ds es : List Entry) → ◌≡◌ {A = List Entry} (d ∷ ds) (e ∷ es) → ds ≡ es
tail_flat d e ds es same = cc

-- the first names and those behind them
pub shape_there : (d e : Entry) (ds es : List Entry) → shape (d ∷ ds) ≡ shape (e ∷ es)
    → (flat d.meaning ≡ flat e.meaning) × (shape ds ≡ shape es)
shape_there d e ds es same = (
  head_flat d e (shape ds) (shape es) same,
  tail_flat (flat_entry d) (flat_entry e) (shape ds) (shape es) same,
)

meanings_alike : (n : ℕ) (ds es : List Entry) → shape ds ≡ shape es
    → option_map flat (meaning_at n ds) ≡ option_map flat (meaning_at n es)
meanings_alike n [] [] same = refl
meanings_alike n [] (e ∷ es) same = absurd (cc same)
meanings_alike n (d ∷ ds) [] same = absurd (cc same)
meanings_alike n (d ∷ ds) (e ∷ es) same =
    let both = shape_there d e ds es same in
    ap (λ (i : ℕ). option_map flat (cond (nat_eq i n) (Some d.meaning) (meaning_at n ds))) (long_alike ds es both.1)
    ∙ there_by (nat_eq (length es) n) d e ds es n both.0 (meanings_alike n ds es both.1)

none_at : (n : ℕ) (es : List Entry) → length es ≤ n → meaning_at n es ≡ None
none_at n [] few = refl
none_at n (e ∷ es) few =
    let other : nat_eq (length es) n ≡ false = grind (arith, nat_tests, few) in
    ap (λ (t : Bool). cond t (Some e.meaning) (meaning_at n es)) other ∙ none_at n es (omega (arith, few))

-- the outermost have what all have, or nothing
outer_by : (t : Bool) (P : Option Meaning → Type 0) (n count : ℕ) (e : Entry) (es : List Entry)
    → nat_lt (length es) count ≡ t → P None → P (meaning_at n (e ∷ es)) → P (meaning_at n (outermost count es))
    → P (meaning_at n (cond t (e ∷ es) (outermost count es)))
outer_by true P n count e es is none here further = here
outer_by false P n count e es is none here further = further

outer_has : (n count : ℕ) (es : List Entry) → IsNarrowedIfAny (meaning_at n es)
    → IsNarrowedIfAny (meaning_at n (outermost count es))
outer_has n count [] here = tt
outer_has n count (e ∷ es) here =
    outer_by (nat_lt (length es) count) IsNarrowedIfAny n count e es refl tt here
    (outer_has n count es (rest_has (nat_eq (length es) n) refl here))
  where
    rest_has : (t : Bool) → nat_eq (length es) n ≡ t → IsNarrowedIfAny (cond t (Some e.meaning) (meaning_at n es))
        → IsNarrowedIfAny (meaning_at n es)
    rest_has true is narrows =
        let same : length es ≡ n = grind (arith, nat_tests, is) in
        subst IsNarrowedIfAny (sym (none_at n es (omega (arith, same)))) tt
    rest_has false is narrows = narrows

-- one that conditions narrow is no index
excluded_here : (f : Ends → Ends) (n : ℕ) (ds : List Entry) → IsNarrowedIfAny (meaning_at n ds)
    → indices_of (at_number (with_meaning (with_range f)) n ds) ≡ indices_of ds
excluded_here f n [] narrows = refl
excluded_here f n (d ∷ ds) narrows =
    at_by (nat_eq (length ds) n) (with_range f) n d ds
    (λ is. narrowed_index f d.meaning
    (subst (λ (t : Bool). IsNarrowedIfAny (cond t (Some d.meaning) (meaning_at n ds))) is narrows))
    (λ is. excluded_here f n ds
    (subst (λ (t : Bool). IsNarrowedIfAny (cond t (Some d.meaning) (meaning_at n ds))) is narrows))

excluded_by_number : (o : Option ℕ) (t : Tested) (es ds : List Entry) → number_in t.name es ≡ o
    → shape ds ≡ shape (outermost (length ds) es) → is_narrowed (meaning_in t.name es) ≡ true
    → indices_of (excluded_at o t ds) ≡ indices_of ds
excluded_by_number None t es ds is fits narrows = refl
excluded_by_number (Some n) t es ds is fits narrows =
    let all = if_any (meaning_at n es)
    (subst (λ (o : Option Meaning). is_narrowed o ≡ true) (meaning_found t.name n es is) narrows) in
    excluded_here (left_of (opposite t.comparison) t.constant) n ds
    (flat_if_any (meaning_at n ds) (meaning_at n (outermost (length ds) es))
    (meanings_alike n ds (outermost (length ds) es) fits) (outer_has n (length ds) es all))

excluded_by_test : (o : Option Tested) (e : Expression) (es ds : List Entry) → test_of es e ≡ o
    → shape ds ≡ shape (outermost (length ds) es) → indices_of (excluded_by o es ds) ≡ indices_of ds
excluded_by_test None e es ds is fits = refl
excluded_by_test (Some t) e es ds is fits =
    excluded_by_number (number_in t.name es) t es ds refl fits (test_narrows es e t is)

-- ---- actions

receive_indices : (o : Option ℕ) (es : List Entry) → indices_of (receive_if o es) ≡ indices_of es
receive_indices None es = refl
receive_indices (Some n) es = change_indices n type_range es

assign_indices : (o : Option ℕ) (r : Result Ends ℕ) (es : List Entry) → indices_of (assign_if o r es) ≡ indices_of es
assign_indices None r es = refl
assign_indices (Some n) (Ok range) es = change_indices n (λ type. range) es
assign_indices (Some n) (Err e) es = receive_indices (Some n) es

actuals_indices : (qs : List Parameter) (i : ℕ) (actuals : List Expression) (es : List Entry)
    → indices_of (after_actuals qs i actuals es) ≡ indices_of es
actuals_indices qs i [] es = refl
actuals_indices qs i (e ∷ actuals) es =
    let number = passed_to (item_at i qs) es e in
    actuals_indices qs (suc i) actuals (receive_if number es) ∙ receive_indices number es

action_indices : (signatures : List (List Parameter)) (action : Action) (es : List Entry)
    → indices_of (after_action signatures action es) ≡ indices_of es
action_indices signatures Skip es = refl
action_indices signatures Stop es = refl
action_indices signatures (Assign target value) es =
    assign_indices (variable_at es target) (range_found (bound_of es value)) es
action_indices signatures (Input channel target) es = receive_indices (variable_at es target) es
action_indices signatures (Output channel value) es = refl
action_indices signatures (Instance name actuals) es =
    actuals_indices (parameters_in signatures (meaning_in name es)) 0 actuals es

-- ---- loops and branches

widened_index : (t : Bool) (e : Entry) → index_of_loop (widened_if t e).meaning ≡ index_of_loop e.meaning
widened_index true e = ranged_index type_range e.meaning
widened_index false e = refl

widen_indices : (ns : List ℕ) (es : List Entry) → indices_of (widen ns es) ≡ indices_of es
widen_indices ns [] = refl
widen_indices ns (e ∷ es) =
    ap (λ (o : Option Ends). o ∷ indices_of (widen ns es)) (widened_index (is_one_of ns (length es)) e)
    ∙ ap (λ (os : List (Option Ends)). index_of_loop e.meaning ∷ os) (widen_indices ns es)

hull_itself : (r : Ends) → hull r r ≡ r
hull_itself r =
    let low : (hull r r).lo ≡ r.lo = omega (arith, ints, clamps) in
    let high : (hull r r).hi ≡ r.hi = omega (arith, ints, clamps) in
    λ i. record { lo = low i; hi = high i }

pub hull_kind : (kind k : ScalarKind) (type t : ValueType) (r s : Ends)
    → index_of_loop (Scalar kind type r) ≡ index_of_loop (Scalar k t s)
    → index_of_loop (Scalar kind type (hull r s)) ≡ index_of_loop (Scalar kind type r)
hull_kind kinds.Index kinds.Index type t r s same =
    let one : r ≡ s = cc in
    ap (λ (x : Ends). Some (hull r x)) (sym one) ∙ ap (λ (x : Ends). Some x) (hull_itself r)
hull_kind kinds.Index kinds.Variable type t r s same = absurd (cc same)
hull_kind kinds.Index kinds.Value type t r s same = absurd (cc same)
hull_kind kinds.Index kinds.Reference type t r s same = absurd (cc same)
hull_kind kinds.Variable k type t r s same = refl
hull_kind kinds.Value k type t r s same = refl
hull_kind kinds.Reference k type t r s same = refl

hull_index : (m n : Meaning) → index_of_loop m ≡ index_of_loop n → index_of_loop (hull_meaning m n) ≡ index_of_loop m
hull_index m n =
    hull_cases (λ (a b c : Meaning). index_of_loop a ≡ index_of_loop b → index_of_loop c ≡ index_of_loop a)
    (λ kind k type t r s same. hull_kind kind k type t r s same) (λ a b is same. refl) m n

hull_indices : (ds es : List Entry) → indices_of ds ≡ indices_of es → indices_of (hulls ds es) ≡ indices_of ds
hull_indices [] es same = refl
hull_indices (d ∷ ds) [] same = refl
hull_indices (d ∷ ds) (e ∷ es) same =
    let both = index_there d e ds es same in
    ap (λ (o : Option Ends). o ∷ indices_of (hulls ds es)) (hull_index d.meaning e.meaning both.0)
    ∙ ap (λ (os : List (Option Ends)). index_of_loop d.meaning ∷ os) (hull_indices ds es both.1)

pub index_lengths : (ds es : List Entry) → indices_of ds ≡ indices_of es → length ds ≡ length es
index_lengths [] [] same = refl
index_lengths [] (e ∷ es) same = absurd (cc same)
index_lengths (d ∷ ds) [] same = absurd (cc same)
index_lengths (d ∷ ds) (e ∷ es) same = ap suc (index_lengths ds es (index_there d e ds es same).1)

left_by : (t : Bool) (count : ℕ) (d e : Entry) (ds es : List Entry) → indices_of (d ∷ ds) ≡ indices_of (e ∷ es)
    → indices_of (outermost count ds) ≡ indices_of (outermost count es)
    → indices_of (cond t (d ∷ ds) (outermost count ds)) ≡ indices_of (cond t (e ∷ es) (outermost count es))
left_by true count d e ds es same further = same
left_by false count d e ds es same further = further

left_indices : (count : ℕ) (ds es : List Entry) → indices_of ds ≡ indices_of es
    → indices_of (outermost count ds) ≡ indices_of (outermost count es)
left_indices count [] [] same = refl
left_indices count [] (e ∷ es) same = absurd (cc same)
left_indices count (d ∷ ds) [] same = absurd (cc same)
left_indices count (d ∷ ds) (e ∷ es) same =
    let both = index_there d e ds es same in
    ap (λ (i : ℕ). indices_of (cond (nat_lt i count) (d ∷ ds) (outermost count ds))) (index_lengths ds es both.1)
    ∙ left_by (nat_lt (length es) count) count d e ds es same (left_indices count ds es both.1)

pub indices_stay : IndicesStay
indices_stay = record {
  narrowing = narrow_indices;
  excluding = λ es ds e fits. excluded_by_test (test_of es e) e es ds refl fits;
  changing = change_indices;
  acting = action_indices;
  widening = widen_indices;
  joining = hull_indices;
  leaving = left_indices;
}
