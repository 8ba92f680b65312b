-- Each move keeps that an environment meets the scope.
use Rattle.std.proofs.Common.{◌≡◌, ℕ, suc, ℤ, Bool, true, false, cond, List, [], ◌∷◌, length, Option, Some, None}
use Rattle.std.proofs.Common.{refl, sym, ap, subst, arith, ◌∙◌, nat_eq, nat_lt, bytes_eq}
use Rattle.std.proofs.lemmas.Int.{ints, clamps}
use Rattle.occam_parser.specs.declared.tree.ValueType.{ValueType}
use Rattle.word_arithmetic.specs.Range.{Ends, InRange, hull, full}
use Rattle.scalar_ranges.specs.declared.scope.ScalarKind.{ScalarKind}
use Rattle.scalar_ranges.specs.declared.scope.ScalarKind.TheVariants as kinds
use Rattle.scalar_ranges.specs.Entries.{Meaning, Constant, Scalar, Array, Channel, Channels, Procedure, Entry}
use Rattle.scalar_ranges.specs.Entries.{type_range, number_in}
use Rattle.scalar_ranges.specs.Environments.{Held, Nothing, One, Many, Binding, Environment, IsHeld, Meets}
use Rattle.scalar_ranges.specs.Narrowing.{Tested, test_of, with_range, changed, by_test, left_of, as_holds, opposite}
use Rattle.scalar_ranges.specs.Moves.{outermost, at_number, with_meaning, ranged}
use Rattle.scalar_ranges.specs.Moves.{widened, is_one_of, widened_if, widen}
use Rattle.scalar_ranges.specs.Moves.{hull_meaning, hulls, of_both, taken, ends_with}
use Rattle.scalar_ranges.specs.Moves.{not_so, excluded_at, excluded_by}
use Rattle.scalar_ranges.specs.MoveLaws.{DeclaringHolds, LeavingHolds, put, meaning_at, ChangingHolds, HoldingHolds}
use Rattle.scalar_ranges.specs.MoveLaws.{IsHeldAfter}
use Rattle.scalar_ranges.specs.MoveLaws.{WideningHolds, shape, BranchesHold, ComponentsHold, ShapesStay}

pub declaring_holds : DeclaringHolds
declaring_holds es env name m h meets is = (refl, is, meets)

-- an environment that meets a scope has as many bindings as it has entries
pub as_long : (env : Environment) (es : List Entry) → Meets env es → length env ≡ length es
as_long [] [] m = refl
as_long [] (e ∷ es) m = absurd m
as_long (b ∷ bs) [] m = absurd m
as_long (b ∷ bs) (e ∷ es) m = let k = as_long bs es m.2 in omega arith

leave_by : (t : Bool) (b : Binding) (bs : Environment) (e : Entry) (es : List Entry) (count : ℕ)
    → Meets (b ∷ bs) (e ∷ es)
    → Meets (outermost count bs) (outermost count es)
    → Meets (cond t (b ∷ bs) (outermost count bs)) (cond t (e ∷ es) (outermost count es))
leave_by true b bs e es count m k = m
leave_by false b bs e es count m k = k

pub leaving_holds : LeavingHolds
leaving_holds [] [] count m = m
leaving_holds [] (b ∷ bs) count m = absurd m
leaving_holds (e ∷ es) [] count m = absurd m
leaving_holds (e ∷ es) (b ∷ bs) count m =
    subst (λ n. Meets (cond (nat_lt n count) (b ∷ bs) (outermost count bs)) (outermost count (e ∷ es)))
    (sym (as_long bs es m.2))
    (leave_by (nat_lt (length es) count) b bs e es count m (leaving_holds es bs count m.2))

change_by : (t : Bool) (b : Binding) (bs : Environment) (e : Entry) (es : List Entry) (n : ℕ) (f : Meaning → Meaning)
    (m : Meaning) (h : Held) → Meets (b ∷ bs) (e ∷ es) → cond t (Some e.meaning) (meaning_at n es) ≡ Some m
    → IsHeld (f m) h → (meaning_at n es ≡ Some m → Meets (put n h bs) (at_number (with_meaning f) n es))
    → Meets (cond t (record { name = b.name; held = h } ∷ bs) (b ∷ put n h bs))
    (cond t (record { name = e.name; meaning = f e.meaning } ∷ es) (e ∷ at_number (with_meaning f) n es))
change_by true b bs e es n f m h meets is held others =
    let same : e.meaning ≡ m = cc in
    (meets.0, subst (λ k. IsHeld (f k) h) (sym same) held, meets.2)
change_by false b bs e es n f m h meets is held others = (meets.0, meets.1, others is)

pub changing_holds : ChangingHolds
changing_holds [] env n f m h meets is held = absurd (cc)
changing_holds (e ∷ es) [] n f m h meets is held = absurd meets
changing_holds (e ∷ es) (b ∷ bs) n f m h meets is held =
    subst (λ k. Meets (cond (nat_eq k n) (record { name = b.name; held = h } ∷ bs) (b ∷ put n h bs))
    (at_number (with_meaning f) n (e ∷ es))) (sym (as_long bs es meets.2))
    (change_by (nat_eq (length es) n) b bs e es n f m h meets is held
    (λ further. changing_holds es bs n f m h meets.2 further held))

same_by : (t : Bool) (n : ℕ) (e : Entry) (es : List Entry) → at_number (with_meaning (λ m. m)) n es ≡ es
    → cond t (e ∷ es) (e ∷ at_number (with_meaning (λ m. m)) n es) ≡ e ∷ es
same_by true n e es h = refl
same_by false n e es h = ap (λ ks. e ∷ ks) h

all_same : (n : ℕ) (es : List Entry) → at_number (with_meaning (λ m. m)) n es ≡ es
all_same n [] = refl
all_same n (e ∷ es) = same_by (nat_eq (length es) n) n e es (all_same n es)

pub holding_holds : HoldingHolds
holding_holds es env n m h meets is held =
    subst (Meets (put n h env)) (all_same n es) (changing_holds es env n (λ k. k) m h meets is held)

widened_held : (t : Bool) (e : Entry) (old new : Held) → IsHeld e.meaning old → IsHeldAfter t e.meaning old new
    → IsHeld (widened_if t e).meaning new
widened_held true e old new is after = after
widened_held false e old new is after = subst (IsHeld e.meaning) (sym after) is

widened_name : (t : Bool) (e : Entry) → (widened_if t e).name ≡ e.name
widened_name true e = refl
widened_name false e = refl

pub widening_holds : WideningHolds
widening_holds [] [] [] ns m c = m
widening_holds [] [] (d ∷ ds) ns m c = absurd c
widening_holds [] (b ∷ bs) new ns m c = absurd m
widening_holds (e ∷ es) [] new ns m c = absurd m
widening_holds (e ∷ es) (b ∷ bs) [] ns m c = absurd c
widening_holds (e ∷ es) (b ∷ bs) (d ∷ ds) ns m c = (
  c.0 ∙ m.0 ∙ sym (widened_name (is_one_of ns (length es)) e),
  widened_held (is_one_of ns (length es)) e b.held d.held m.1 c.1,
  widening_holds es bs ds ns m.2 c.2,
)

-- ---- hulls

in_left : (r s : Ends) (v : ℤ) → InRange r v → InRange (hull r s) v
in_left r s v m =
    let a = m.from_lo in
    let b = m.to_hi in
    record { from_lo = omega (arith, ints, clamps); to_hi = omega (arith, ints, clamps) }

in_right : (r s : Ends) (v : ℤ) → InRange s v → InRange (hull r s) v
in_right r s v m =
    let a = m.from_lo in
    let b = m.to_hi in
    record { from_lo = omega (arith, ints, clamps); to_hi = omega (arith, ints, clamps) }

-- the hull of two meanings is that of two scalars, or else the first of them
pub hull_cases : (P : Meaning → Meaning → Meaning → Type 0)
    → ((kind k : ScalarKind) (type t : ValueType) (r s : Ends)
    → P (Scalar kind type r) (Scalar k t s) (Scalar kind type (hull r s)))
    → ((m n : Meaning) → hull_meaning m n ≡ m → P m n m) → (m n : Meaning) → P m n (hull_meaning m n)
hull_cases P both other (Scalar kind type r) (Scalar k t s) = both kind k type t r s
hull_cases P both other (Scalar kind type r) (Constant t v) = other (Scalar kind type r) (Constant t v) refl
hull_cases P both other (Scalar kind type r) (Array k t size s) = other (Scalar kind type r) (Array k t size s) refl
hull_cases P both other (Scalar kind type r) (Channel t) = other (Scalar kind type r) (Channel t) refl
hull_cases P both other (Scalar kind type r) (Channels t size) = other (Scalar kind type r) (Channels t size) refl
hull_cases P both other (Scalar kind type r) (Procedure number) = other (Scalar kind type r) (Procedure number) refl
hull_cases P both other (Constant type value) n = other (Constant type value) n refl
hull_cases P both other (Array kind type size range) n = other (Array kind type size range) n refl
hull_cases P both other (Channel type) n = other (Channel type) n refl
hull_cases P both other (Channels type size) n = other (Channels type size) n refl
hull_cases P both other (Procedure number) n = other (Procedure number) n refl

-- a scalar whose range has the numbers of another's
wider_held : (kind k : ScalarKind) (type t : ValueType) (r s : Ends) (h : Held)
    → ((v : ℤ) → InRange r v → InRange s v) → IsHeld (Scalar kind type r) h → IsHeld (Scalar k t s) h
wider_held kind k type t r s (One v) within is = within v is
wider_held kind k type t r s Nothing within is = is
wider_held kind k type t r s (Many vs) within is = is

held_left : (m n : Meaning) (h : Held) → IsHeld m h → IsHeld (hull_meaning m n) h
held_left m n h =
    hull_cases (λ (a b c : Meaning). IsHeld a h → IsHeld c h)
    (λ kind k type t r s. wider_held kind kind type type r (hull r s) h (in_left r s)) (λ a b same is. is) m n

pub earlier_hold : (ds es : List Entry) (env : Environment) → Meets env ds → Meets env (hulls ds es)
earlier_hold [] es env m = m
earlier_hold (d ∷ ds) [] env m = m
earlier_hold (d ∷ ds) (e ∷ es) [] m = absurd m
earlier_hold (d ∷ ds) (e ∷ es) (b ∷ bs) m =
    (m.0, held_left d.meaning e.meaning b.held m.1, earlier_hold ds es bs m.2)

abbrev pub flat : Meaning → Meaning
flat m = with_range (λ r. full) m

abbrev NotScalar : Meaning → Type 0
NotScalar (Scalar kind type r) = ⊥
NotScalar m = Unit {0}

other_held : (m n : Meaning) (h : Held) → m ≡ flat n → NotScalar m → IsHeld n h → IsHeld m h
other_held m (Scalar k t s) h same other is = absurd (subst NotScalar same other)
other_held m (Constant t v) h same other is = subst (λ k. IsHeld k h) (sym same) is
other_held m (Array k t size s) h same other is = subst (λ k. IsHeld k h) (sym same) is
other_held m (Channel t) h same other is = subst (λ k. IsHeld k h) (sym same) is
other_held m (Channels t size) h same other is = subst (λ k. IsHeld k h) (sym same) is
other_held m (Procedure number) h same other is = subst (λ k. IsHeld k h) (sym same) is

held_right : (m n : Meaning) (h : Held) → flat m ≡ flat n → IsHeld n h → IsHeld (hull_meaning m n) h
held_right (Scalar kind type r) (Scalar k t s) h same is =
    wider_held k kind t type s (hull r s) h (in_right r s) is
held_right (Scalar kind type r) (Constant t v) h same is = absurd (cc)
held_right (Scalar kind type r) (Array k t size s) h same is = absurd (cc)
held_right (Scalar kind type r) (Channel t) h same is = absurd (cc)
held_right (Scalar kind type r) (Channels t size) h same is = absurd (cc)
held_right (Scalar kind type r) (Procedure number) h same is = absurd (cc)
held_right (Constant type value) n h same is = other_held (Constant type value) n h same tt is
held_right (Array kind type size range) n h same is = other_held (Array kind type size range) n h same tt is
held_right (Channel type) n h same is = other_held (Channel type) n h same tt is
held_right (Channels type size) n h same is = other_held (Channels type size) n h same tt is
held_right (Procedure number) n h same is = other_held (Procedure number) n h same tt is

head_name : (d e : Entry) (ds es : List Entry) → ◌≡◌ {A = List Entry} (d ∷ ds) (e ∷ es) → d.name ≡ e.name
head_name d e ds es h = cc

head_meaning : (d e : Entry) (ds es : List Entry) → ◌≡◌ {A = List Entry} (d ∷ ds) (e ∷ es) → d.meaning ≡ e.meaning
head_meaning d e ds es h = cc

tails : (d e : Entry) (ds es : List Entry) → ◌≡◌ {A = List Entry} (d ∷ ds) (e ∷ es) → ds ≡ es
tails d e ds es h = cc

abbrev flat_entry : Entry → Entry
flat_entry e = record { name = e.name; meaning = flat e.meaning }

pub this_holds : (ds es : List Entry) (env : Environment) → shape ds ≡ shape es → Meets env es
    → Meets env (hulls ds es)
this_holds [] [] env same m = m
this_holds [] (e ∷ es) env same m = absurd (cc)
this_holds (d ∷ ds) [] env same m = absurd (cc)
this_holds (d ∷ ds) (e ∷ es) [] same m = absurd m
this_holds (d ∷ ds) (e ∷ es) (b ∷ bs) same m =
    let f = flat_entry d in
    let g = flat_entry e in (
      m.0 ∙ sym (head_name f g (shape ds) (shape es) same),
      held_right d.meaning e.meaning b.held (head_meaning f g (shape ds) (shape es) same) m.1,
      this_holds ds es bs (tails f g (shape ds) (shape es) same) m.2,
    )

ends_hold : (ends : Option (List Entry)) (es : List Entry) (env : Environment)
    → ((ds : List Entry) → ends ≡ Some ds → shape ds ≡ shape es) → Meets env es → Meets env (ends_with ends es)
ends_hold None es env same m = m
ends_hold (Some ds) es env same m = this_holds ds es env (same ds refl) m

pub branches_hold : BranchesHold
branches_hold = record { this_one = ends_hold; earlier_ones = earlier_hold }

-- ---- components

taken_by : (t : Bool) (b c : Binding) (d e : Entry) → (b.name ≡ d.name) × IsHeld d.meaning b.held
    → (c.name ≡ e.name) × IsHeld e.meaning c.held
    → ((of_both t b c).name ≡ (of_both t d e).name) × IsHeld (of_both t d e).meaning (of_both t b c).held
taken_by false b c d e m n = m
taken_by true b c d e m n = n

pub components_hold : ComponentsHold
components_hold [] es [] new ns m n = m
components_hold [] es (b ∷ bs) new ns m n = absurd m
components_hold (d ∷ ds) es [] new ns m n = absurd m
components_hold (d ∷ ds) [] (b ∷ bs) [] ns m n = m
components_hold (d ∷ ds) [] (b ∷ bs) (c ∷ cs) ns m n = absurd n
components_hold (d ∷ ds) (e ∷ es) (b ∷ bs) [] ns m n = absurd n
components_hold (d ∷ ds) (e ∷ es) (b ∷ bs) (c ∷ cs) ns m n =
    let here = taken_by (is_one_of ns (length ds)) b c d e (m.0, m.1) (n.0, n.1) in
    subst (λ k. Meets (of_both (is_one_of ns k) b c ∷ taken ns bs cs) (taken ns (d ∷ ds) (e ∷ es)))
    (sym (as_long bs ds m.2)) (here.0, here.1, components_hold ds es bs cs ns m.2 n.2)

-- ---- the shape

same_entry : (e : Entry) (m : Meaning) → flat m ≡ flat e.meaning
    → flat_entry (record { name = e.name; meaning = m }) ≡ flat_entry e
same_entry e m h = ap (λ k. record { name = e.name; meaning = k }) h

with_range_flat : (f : Ends → Ends) (m : Meaning) → flat (with_range f m) ≡ flat m
with_range_flat f (Scalar kind type range) = refl
with_range_flat f (Constant type value) = refl
with_range_flat f (Array kind type size range) = refl
with_range_flat f (Channel type) = refl
with_range_flat f (Channels type size) = refl
with_range_flat f (Procedure number) = refl

changed_by_shape : (t : Bool) (f : Ends → Ends) (name : List ℕ) (e : Entry) (es : List Entry)
    → shape (changed f name es) ≡ shape es
    → shape (cond t (record { name = e.name; meaning = with_range f e.meaning } ∷ es) (e ∷ changed f name es))
    ≡ shape (e ∷ es)
changed_by_shape true f name e es h =
    ap (λ k. k ∷ shape es) (same_entry e (with_range f e.meaning) (with_range_flat f e.meaning))
changed_by_shape false f name e es h = ap (λ ks. flat_entry e ∷ ks) h

pub changed_shape : (f : Ends → Ends) (name : List ℕ) (es : List Entry) → shape (changed f name es) ≡ shape es
changed_shape f name [] = refl
changed_shape f name (e ∷ es) = changed_by_shape (bytes_eq e.name name) f name e es (changed_shape f name es)

tested_shape : (es : List Entry) (holds : Bool) (o : Option Tested) → shape (by_test es holds o) ≡ shape es
tested_shape es holds None = refl
tested_shape es holds (Some t) = changed_shape (left_of (as_holds holds t.comparison) t.constant) t.name es

ranged_flat : (range : ValueType → Ends) (m : Meaning) → flat (ranged range m) ≡ flat m
ranged_flat range (Scalar kinds.Variable type r) = refl
ranged_flat range (Scalar kinds.Value type r) = refl
ranged_flat range (Scalar kinds.Reference type r) = refl
ranged_flat range (Scalar kinds.Index type r) = refl
ranged_flat range (Constant type value) = refl
ranged_flat range (Array kind type size r) = refl
ranged_flat range (Channel type) = refl
ranged_flat range (Channels type size) = refl
ranged_flat range (Procedure number) = refl

at_number_by : (t : Bool) (f : Meaning → Meaning) (n : ℕ) (e : Entry) (es : List Entry)
    → flat (f e.meaning) ≡ flat e.meaning → shape (at_number (with_meaning f) n es) ≡ shape es
    → shape (cond t (with_meaning f e ∷ es) (e ∷ at_number (with_meaning f) n es)) ≡ shape (e ∷ es)
at_number_by true f n e es same h = ap (λ k. k ∷ shape es) (same_entry e (f e.meaning) same)
at_number_by false f n e es same h = ap (λ ks. flat_entry e ∷ ks) h

at_shape : (f : Meaning → Meaning) (n : ℕ) (es : List Entry) → ((m : Meaning) → flat (f m) ≡ flat m)
    → shape (at_number (with_meaning f) n es) ≡ shape es
at_shape f n [] same = refl
at_shape f n (e ∷ es) same =
    at_number_by (nat_eq (length es) n) f n e es (same e.meaning) (at_shape f n es same)

pub ranged_shape : (range : ValueType → Ends) (n : ℕ) (es : List Entry)
    → shape (at_number (with_meaning (ranged range)) n es) ≡ shape es
ranged_shape range n es = at_shape (ranged range) n es (ranged_flat range)

numbered_shape : (o : Option ℕ) (t : Tested) (ds : List Entry) → shape (excluded_at o t ds) ≡ shape ds
numbered_shape None t ds = refl
numbered_shape (Some n) t ds =
    at_shape (not_so t) n ds (with_range_flat (left_of (opposite t.comparison) t.constant))

excluded_shape : (o : Option Tested) (es ds : List Entry) → shape (excluded_by o es ds) ≡ shape ds
excluded_shape None es ds = refl
excluded_shape (Some t) es ds = numbered_shape (number_in t.name es) t ds

widened_entry : (t : Bool) (e : Entry) → flat_entry (widened_if t e) ≡ flat_entry e
widened_entry false e = refl
widened_entry true e = same_entry e (widened e.meaning) (ranged_flat type_range e.meaning)

widen_shape : (es : List Entry) (ns : List ℕ) → shape (widen ns es) ≡ shape es
widen_shape [] ns = refl
widen_shape (e ∷ es) ns = λ i. widened_entry (is_one_of ns (length es)) e i ∷ widen_shape es ns i

hull_flat : (m n : Meaning) → flat (hull_meaning m n) ≡ flat m
hull_flat m n =
    hull_cases (λ (a b h : Meaning). flat h ≡ flat a) (λ kind k type t r s. refl) (λ a b same. refl) m n

hulls_shape : (ds es : List Entry) → shape (hulls ds es) ≡ shape ds
hulls_shape [] es = refl
hulls_shape (d ∷ ds) [] = refl
hulls_shape (d ∷ ds) (e ∷ es) = λ i.
    same_entry d (hull_meaning d.meaning e.meaning) (hull_flat d.meaning e.meaning) i ∷ hulls_shape ds es i

taken_entry : (t : Bool) (d e : Entry) → flat_entry d ≡ flat_entry e → flat_entry (of_both t d e) ≡ flat_entry d
taken_entry false d e h = refl
taken_entry true d e h = sym h

taken_shape : (ds es : List Entry) (ns : List ℕ) → shape ds ≡ shape es → shape (taken ns ds es) ≡ shape ds
taken_shape [] es ns same = refl
taken_shape (d ∷ ds) [] ns same = refl
taken_shape (d ∷ ds) (e ∷ es) ns same =
    let f = flat_entry d in
    let g = flat_entry e in
    let head : f ≡ g = cc in
    let tail = tails f g (shape ds) (shape es) same in
    λ i. taken_entry (is_one_of ns (length ds)) d e head i ∷ taken_shape ds es ns tail i

pub shape_long : (es : List Entry) → length (shape es) ≡ length es
shape_long [] = refl
shape_long (e ∷ es) = ap suc (shape_long es)

cut_by : (t : Bool) (e : Entry) (es : List Entry) (count : ℕ)
    → shape (outermost count es) ≡ outermost count (shape es)
    → shape (cond t (e ∷ es) (outermost count es)) ≡ cond t (shape (e ∷ es)) (outermost count (shape es))
cut_by true e es count h = refl
cut_by false e es count h = h

cut_shape : (es : List Entry) (count : ℕ) → shape (outermost count es) ≡ outermost count (shape es)
cut_shape [] count = refl
cut_shape (e ∷ es) count = cut_by (nat_lt (length es) count) e es count (cut_shape es count)
    ∙ ap (λ n. cond (nat_lt n count) (shape (e ∷ es)) (outermost count (shape es))) (sym (shape_long es))

leaving_shape : (ds es : List Entry) (count : ℕ) → shape ds ≡ shape es
    → shape (outermost count ds) ≡ shape (outermost count es)
leaving_shape ds es count same = cut_shape ds count ∙ ap (outermost count) same ∙ sym (cut_shape es count)

pub shapes_stay : ShapesStay
shapes_stay = record {
  narrowing = λ es e holds. tested_shape es holds (test_of es e);
  excluding = λ es ds e. excluded_shape (test_of es e) es ds;
  assigning = λ es n range. ranged_shape (λ type. range) n es;
  widening = widen_shape;
  joining = hulls_shape;
  taking = taken_shape;
  leaving = leaving_shape;
}
