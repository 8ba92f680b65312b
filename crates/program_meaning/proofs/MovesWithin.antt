-- What moves leave of ranges.
use Rattle.std.proofs.Common.{◌≡◌, ℕ, suc, ◌+ℤ◌, ◌-ℤ◌, ℤ, pos, Bool, true, false, cond, List, [], ◌∷◌, length, Option}
use Rattle.std.proofs.Common.{Some, None, inl, inr, refl, sym, ap, subst, arith, ◌∙◌, ◌⊎◌}
use Rattle.std.proofs.lemmas.Int.{ints, clamps}
use Rattle.std.proofs.lemmas.Bool.Decides.{nat_tests}
use Rattle.std.specs.Int.{int_min, int_max}
use Rattle.std.specs.Prelude.{bytes_eq, nat_eq, nat_lt, int_le, option_map, unwrap_or}
use Rattle.small_laws.proofs.Comparisons.{eqb-self}
use Rattle.word_arithmetic.specs.Range.{Ends, inside as range_inside, outside, in_range, range_between, narrowed, hull}
use Rattle.word_arithmetic.specs.Range.{full}
use Rattle.word_arithmetic.specs.Range.{constant, at_least, at_most}
use Rattle.word_arithmetic.specs.declared.compare.Comparison.{Comparison}
use Rattle.word_arithmetic.specs.declared.compare.Comparison.TheVariants as comparison
use Rattle.word_arithmetic.proofs.EndsLaws.{in_range_out, words_in_order_are_ranges}
use Rattle.occam_parser.specs.declared.tree.ValueType.{ValueType}
use Rattle.occam_parser.specs.Expressions.{Expression}
use Rattle.scalar_ranges.specs.declared.scope.ScalarKind.{ScalarKind}
use Rattle.scalar_ranges.specs.declared.scope.ScalarKind.TheVariants as kinds
use Rattle.scalar_ranges.specs.Entries.{Meaning, Constant, Scalar, Array, Channel, Channels, Procedure, Entry}
use Rattle.scalar_ranges.specs.Entries.{meaning_in, number_in, type_range}
use Rattle.scalar_ranges.specs.Narrowing.{left_of, with_range, narrow, by_test, test_of, changed, as_holds, opposite}
use Rattle.scalar_ranges.specs.Narrowing.{Tested}
use Rattle.scalar_ranges.specs.Moves.{is_one_of, outermost, at_number, with_meaning, ranged, assigned, widened, hulls}
use Rattle.scalar_ranges.specs.Moves.{hull_meaning, widened_if, widen, of_both, taken, not_so, excluded_at, excluded_by}
use Rattle.scalar_ranges.specs.Moves.{excluded}
use Rattle.scalar_ranges.specs.MoveLaws.{shape}
use Rattle.scalar_ranges.proofs.MoveLaws.{hull_cases}
use Rattle.program_uses.specs.Mentions.{is_variable, is_changeable, variable_in}
use Rattle.program_meaning.specs.RangesWithin.{RangeWithin, ScalarWithin, MeaningWithin, EntriesWithin}
use Rattle.program_meaning.specs.RangesWithin.{MovesStayWithin}

-- ---- ranges

inside_within : (r s : Ends) → RangeWithin (range_inside r s) r
inside_within r s =
    by_order (int_le (int_max r.lo s.lo) (int_min r.hi s.hi))
  where
    by_order : (t : Bool)
        → RangeWithin (cond t (record { lo = int_max r.lo s.lo; hi = int_min r.hi s.hi }) r) r
    by_order true = (omega (arith, ints, clamps), omega (arith, ints, clamps))
    by_order false = (omega (arith, ints), omega (arith, ints))

outside_within : (r s : Ends) → RangeWithin (outside r s) r
outside_within r s = by_tests (in_range s r.lo) (in_range s r.hi) refl refl
  where
    by_tests : (t u : Bool) → in_range s r.lo ≡ t → in_range s r.hi ≡ u
        → RangeWithin (cond t (cond u r (record { lo = s.hi +ℤ pos 1; hi = r.hi }))
        (cond u (record { lo = r.lo; hi = s.lo -ℤ pos 1 }) r)) r
    by_tests true true low high = (omega (arith, ints), omega (arith, ints))
    by_tests true false low high =
        let m = in_range_out s r.lo low in
        let a = m.to_hi in
        (omega (arith, ints, a), omega (arith, ints))
    by_tests false true low high =
        let m = in_range_out s r.hi high in
        let a = m.from_lo in
        (omega (arith, ints), omega (arith, ints, a))
    by_tests false false low high = (omega (arith, ints), omega (arith, ints))

narrowed_within : (c : Comparison) (v : ℤ) (r : Ends) → RangeWithin (narrowed c v r) r
narrowed_within comparison.Equal v r = inside_within r (constant v)
narrowed_within comparison.NotEqual v r = outside_within r (constant v)
narrowed_within comparison.Less v r = outside_within r (at_least v)
narrowed_within comparison.LessOrEqual v r = inside_within r (at_most v)
narrowed_within comparison.Greater v r = outside_within r (at_most v)
narrowed_within comparison.GreaterOrEqual v r = inside_within r (at_least v)

within_itself : (r : Ends) → RangeWithin r r
within_itself r = (omega (arith, ints), omega (arith, ints))

left_by : (c : Comparison) (v : ℤ) (r : Ends) (o : Option Ends) → range_between r.lo r.hi ≡ o
    → RangeWithin (unwrap_or (option_map (narrowed c v) o) r) r
left_by c v r None e = within_itself r
left_by c v r (Some s) e =
    let ends = ((words_in_order_are_ranges r.lo r.hi s).0 e) in
    let h = narrowed_within c v s in
    let low = ends.1 in
    let high = ends.2 in
    (omega (arith, ints, h.0, low), omega (arith, ints, h.1, high))

left_within : (c : Comparison) (v : ℤ) (r : Ends) → RangeWithin (left_of c v r) r
left_within c v r = left_by c v r (range_between r.lo r.hi) refl

hull_within : (r s t : Ends) → RangeWithin r t → RangeWithin s t → RangeWithin (hull r s) t
hull_within r s t h k = (omega (arith, ints, clamps, h.0, k.0), omega (arith, ints, clamps, h.1, k.1))

-- ---- meanings

ranged_then : (free : Bool) (m n o : Meaning) → ScalarWithin free m n → ScalarWithin free n o → ScalarWithin free m o
ranged_then free (Scalar kind type r) (Scalar k t s) (Scalar j u q) h g =
    (h.0 ∙ g.0, h.1 ∙ g.1, joined h.2 g.2)
  where
    joined : RangeWithin r s ⊎ ((free ≡ true) × (k ≡ kinds.Variable))
        → RangeWithin s q ⊎ ((free ≡ true) × (j ≡ kinds.Variable))
        → RangeWithin r q ⊎ ((free ≡ true) × (j ≡ kinds.Variable))
    joined (inl a) (inl b) = inl (omega (arith, ints, a.0, b.0), omega (arith, ints, a.1, b.1))
    joined a (inr b) = inr b
    joined (inr a) (inl b) = inr (a.0, sym g.0 ∙ a.1)
ranged_then free (Scalar kind type r) (Scalar k t s) o h g = absurd g
ranged_then free (Scalar kind type r) n o h g = absurd h
ranged_then free m n o h g = absurd h

within_then_one : (free : Bool) (m n o : Meaning) → MeaningWithin free m n → MeaningWithin free n o
    → MeaningWithin free m o
within_then_one free m n o (inl same) g = subst (λ x. MeaningWithin free x o) (sym same) g
within_then_one free m n o (inr h) (inl same) = inr (subst (ScalarWithin free m) same h)
within_then_one free m n o (inr h) (inr g) = inr (ranged_then free m n o h g)

ranged_more : (b c : Bool) (m n : Meaning) → (b ≡ true → c ≡ true) → ScalarWithin b m n → ScalarWithin c m n
ranged_more b c (Scalar kind type r) (Scalar k t s) more h = (h.0, h.1, either h.2)
  where
    either : RangeWithin r s ⊎ ((b ≡ true) × (k ≡ kinds.Variable))
        → RangeWithin r s ⊎ ((c ≡ true) × (k ≡ kinds.Variable))
    either (inl a) = inl a
    either (inr a) = inr (more a.0, a.1)
ranged_more b c (Scalar kind type r) n more h = absurd h
ranged_more b c m n more h = absurd h

within_more_one : (b c : Bool) (m n : Meaning) → (b ≡ true → c ≡ true) → MeaningWithin b m n → MeaningWithin c m n
within_more_one b c m n more (inl same) = inl same
within_more_one b c m n more (inr h) = inr (ranged_more b c m n more h)

-- ---- entries

pub within_same : (ns : List ℕ) (es : List Entry) → EntriesWithin ns es es
within_same ns [] = tt
within_same ns (e ∷ es) = (refl, inl refl, within_same ns es)

within_at : (ns : List ℕ) (ds es : List Entry) → ds ≡ es → EntriesWithin ns ds es
within_at ns ds es same = subst (EntriesWithin ns ds) same (within_same ns ds)

pub within_long : (ns : List ℕ) (ds es : List Entry) → EntriesWithin ns ds es → length ds ≡ length es
within_long ns [] [] h = refl
within_long ns [] (e ∷ es) h = absurd h
within_long ns (d ∷ ds) [] h = absurd h
within_long ns (d ∷ ds) (e ∷ es) h = ap suc (within_long ns ds es h.2)

pub within_then : (ns : List ℕ) (ds es fs : List Entry) → EntriesWithin ns ds es → EntriesWithin ns es fs
    → EntriesWithin ns ds fs
within_then ns [] [] [] h g = tt
within_then ns [] [] (f ∷ fs) h g = absurd g
within_then ns [] (e ∷ es) fs h g = absurd h
within_then ns (d ∷ ds) [] fs h g = absurd h
within_then ns (d ∷ ds) (e ∷ es) [] h g = absurd g
within_then ns (d ∷ ds) (e ∷ es) (f ∷ fs) h g = (
  h.0 ∙ g.0,
  within_then_one (is_one_of ns (length fs)) d.meaning e.meaning f.meaning
      (subst (λ n. MeaningWithin (is_one_of ns n) d.meaning e.meaning) (within_long ns es fs g.2) h.1) g.1,
  within_then ns ds es fs h.2 g.2,
)

pub within_more : (ns ms : List ℕ) (ds es : List Entry) → ((n : ℕ) → is_one_of ns n ≡ true → is_one_of ms n ≡ true)
    → EntriesWithin ns ds es → EntriesWithin ms ds es
within_more ns ms [] [] more h = tt
within_more ns ms [] (e ∷ es) more h = absurd h
within_more ns ms (d ∷ ds) [] more h = absurd h
within_more ns ms (d ∷ ds) (e ∷ es) more h = (
  h.0,
  within_more_one (is_one_of ns (length es)) (is_one_of ms (length es)) d.meaning e.meaning (more (length es)) h.1,
  within_more ns ms ds es more h.2,
)

left_alike : (t : Bool) (ns : List ℕ) (d e : Entry) (ds es : List Entry) (count : ℕ)
    → EntriesWithin ns (d ∷ ds) (e ∷ es)
    → EntriesWithin ns (outermost count ds) (outermost count es)
    → EntriesWithin ns (cond t (d ∷ ds) (outermost count ds)) (cond t (e ∷ es) (outermost count es))
left_alike true ns d e ds es count h g = h
left_alike false ns d e ds es count h g = g

pub within_left : (ns : List ℕ) (count : ℕ) (ds es : List Entry) → EntriesWithin ns ds es
    → EntriesWithin ns (outermost count ds) (outermost count es)
within_left ns count [] [] h = tt
within_left ns count [] (e ∷ es) h = absurd h
within_left ns count (d ∷ ds) [] h = absurd h
within_left ns count (d ∷ ds) (e ∷ es) h =
    subst (λ n. EntriesWithin ns (cond (nat_lt n count) (d ∷ ds) (outermost count ds)) (outermost count (e ∷ es)))
    (sym (within_long ns ds es h.2))
    (left_alike (nat_lt (length es) count) ns d e ds es count h (within_left ns count ds es h.2))

-- ---- moves

with_range_within : (free : Bool) (f : Ends → Ends) (m : Meaning) → ((r : Ends) → RangeWithin (f r) r)
    → MeaningWithin free (with_range f m) m
with_range_within free f (Scalar kind type r) h = inr (refl, refl, inl (h r))
with_range_within free f (Constant type value) h = inl refl
with_range_within free f (Array kind type size range) h = inl refl
with_range_within free f (Channel type) h = inl refl
with_range_within free f (Channels type size) h = inl refl
with_range_within free f (Procedure number) h = inl refl

changed_by_name : (t : Bool) (ns : List ℕ) (f : Ends → Ends) (e : Entry) (es ds : List Entry)
    → ((r : Ends) → RangeWithin (f r) r) → EntriesWithin ns ds es
    → EntriesWithin ns (cond t (record { name = e.name; meaning = with_range f e.meaning } ∷ es) (e ∷ ds)) (e ∷ es)
changed_by_name true ns f e es ds h g =
    (refl, with_range_within (is_one_of ns (length es)) f e.meaning h, within_same ns es)
changed_by_name false ns f e es ds h g = (refl, inl refl, g)

changed_within : (ns : List ℕ) (f : Ends → Ends) (name : List ℕ) (es : List Entry)
    → ((r : Ends) → RangeWithin (f r) r) → EntriesWithin ns (changed f name es) es
changed_within ns f name [] h = tt
changed_within ns f name (e ∷ es) h =
    changed_by_name (bytes_eq e.name name) ns f e es (changed f name es) h (changed_within ns f name es h)

tested_within : (ns : List ℕ) (es : List Entry) (holds : Bool) (o : Option Tested)
    → EntriesWithin ns (by_test es holds o) es
tested_within ns es holds None = within_same ns es
tested_within ns es holds (Some t) =
    changed_within ns (left_of (as_holds holds t.comparison) t.constant) t.name es
    (left_within (as_holds holds t.comparison) t.constant)

pub narrow_within : (ns : List ℕ) (es : List Entry) (e : Expression) (holds : Bool)
    → EntriesWithin ns (narrow es e holds) es
narrow_within ns es e holds = tested_within ns es holds (test_of es e)

pub ranged_within : (free : Bool) (range : ValueType → Ends) (m : Meaning) → free ≡ true
    → MeaningWithin free (ranged range m) m
ranged_within free range (Scalar kinds.Variable type r) is = inr (refl, refl, inr (is, refl))
ranged_within free range (Scalar kinds.Value type r) is = inl refl
ranged_within free range (Scalar kinds.Reference type r) is = inl refl
ranged_within free range (Scalar kinds.Index type r) is = inl refl
ranged_within free range (Constant type value) is = inl refl
ranged_within free range (Array kind type size r) is = inl refl
ranged_within free range (Channel type) is = inl refl
ranged_within free range (Channels type size) is = inl refl
ranged_within free range (Procedure number) is = inl refl

at_by : (t : Bool) (n : ℕ) (f : Meaning → Meaning) (e : Entry) (es ds : List Entry) → nat_eq (length es) n ≡ t
    → ((b : Bool) (m : Meaning) → b ≡ true → MeaningWithin b (f m) m) → EntriesWithin (n ∷ []) ds es
    → EntriesWithin (n ∷ []) (cond t (with_meaning f e ∷ es) (e ∷ ds)) (e ∷ es)
at_by true n f e es ds is h g =
    let same : length es ≡ n = grind (arith, nat_tests, is) in
    let one : is_one_of (n ∷ []) (length es) ≡ true =
    ap (λ k. is_one_of (n ∷ []) k) same ∙ ap (λ t. cond t true false) (eqb-self n) in
    (refl, h (is_one_of (n ∷ []) (length es)) e.meaning one, within_same (n ∷ []) es)
at_by false n f e es ds is h g = (refl, inl refl, g)

pub at_within : (n : ℕ) (f : Meaning → Meaning) (es : List Entry)
    → ((b : Bool) (m : Meaning) → b ≡ true → MeaningWithin b (f m) m)
    → EntriesWithin (n ∷ []) (at_number (with_meaning f) n es) es
at_within n f [] h = tt
at_within n f (e ∷ es) h =
    at_by (nat_eq (length es) n) n f e es (at_number (with_meaning f) n es) refl h (at_within n f es h)

-- a scalar of which less is known, whether or not its number is one of these
numbered_by : (t : Bool) (ns : List ℕ) (f : Meaning → Meaning) (e : Entry) (es ds : List Entry)
    → ((b : Bool) (m : Meaning) → MeaningWithin b (f m) m) → EntriesWithin ns ds es
    → EntriesWithin ns (cond t (with_meaning f e ∷ es) (e ∷ ds)) (e ∷ es)
numbered_by true ns f e es ds h g = (refl, h (is_one_of ns (length es)) e.meaning, within_same ns es)
numbered_by false ns f e es ds h g = (refl, inl refl, g)

numbered_within : (ns : List ℕ) (n : ℕ) (f : Meaning → Meaning) (es : List Entry)
    → ((b : Bool) (m : Meaning) → MeaningWithin b (f m) m)
    → EntriesWithin ns (at_number (with_meaning f) n es) es
numbered_within ns n f [] h = tt
numbered_within ns n f (e ∷ es) h =
    numbered_by (nat_eq (length es) n) ns f e es (at_number (with_meaning f) n es) h (numbered_within ns n f es h)

excluded_by_number : (ns : List ℕ) (o : Option ℕ) (t : Tested) (ds : List Entry)
    → EntriesWithin ns (excluded_at o t ds) ds
excluded_by_number ns None t ds = within_same ns ds
excluded_by_number ns (Some n) t ds =
    numbered_within ns n (not_so t) ds
    (λ b m. with_range_within b (left_of (opposite t.comparison) t.constant) m
    (left_within (opposite t.comparison) t.constant))

excluded_by_test : (ns : List ℕ) (o : Option Tested) (es ds : List Entry)
    → EntriesWithin ns (excluded_by o es ds) ds
excluded_by_test ns None es ds = within_same ns ds
excluded_by_test ns (Some t) es ds = excluded_by_number ns (number_in t.name es) t ds

pub excluded_within : (ns : List ℕ) (es ds : List Entry) (e : Expression) → EntriesWithin ns (excluded e es ds) ds
excluded_within ns es ds e = excluded_by_test ns (test_of es e) es ds

-- ---- many variables

free_name : (t : Bool) (e : Entry) → (widened_if t e).name ≡ e.name
free_name true e = refl
free_name false e = refl

free_within : (t : Bool) (e : Entry) → MeaningWithin t (widened_if t e).meaning e.meaning
free_within true e = ranged_within true type_range e.meaning refl
free_within false e = inl refl

pub widened_within : (ns : List ℕ) (es : List Entry) → EntriesWithin ns (widen ns es) es
widened_within ns [] = tt
widened_within ns (e ∷ es) =
    (free_name (is_one_of ns (length es)) e, free_within (is_one_of ns (length es)) e, widened_within ns es)

either_within : (t : Bool) (free : Bool) (d e f : Entry) → (d.name ≡ f.name) × MeaningWithin free d.meaning f.meaning
    → (e.name ≡ f.name) × MeaningWithin free e.meaning f.meaning
    → ((of_both t d e).name ≡ f.name) × MeaningWithin free (of_both t d e).meaning f.meaning
either_within true free d e f h g = g
either_within false free d e f h g = h

pub within_taken : (ns ms : List ℕ) (ds es fs : List Entry) → EntriesWithin ns ds fs → EntriesWithin ns es fs
    → EntriesWithin ns (taken ms ds es) fs
within_taken ns ms [] es fs h g = h
within_taken ns ms (d ∷ ds) [] fs h g = h
within_taken ns ms (d ∷ ds) (e ∷ es) [] h g = absurd h
within_taken ns ms (d ∷ ds) (e ∷ es) (f ∷ fs) h g =
    let first = either_within (is_one_of ms (length ds)) (is_one_of ns (length fs)) d e f (h.0, h.1) (g.0, g.1) in
    (first.0, first.1, within_taken ns ms ds es fs h.2 g.2)

to_ranged : (free : Bool) (kind : ScalarKind) (type : ValueType) (r : Ends) (o : Meaning)
    → MeaningWithin free (Scalar kind type r) o
    → (q : Ends) × (o ≡ Scalar kind type q) × (RangeWithin r q ⊎ ((free ≡ true) × (kind ≡ kinds.Variable)))
to_ranged free kind type r o (inl same) = (r, sym same, inl (within_itself r))
to_ranged free kind type r (Scalar j u q) (inr h) = (q, (λ i. Scalar (sym h.0 i) (sym h.1 i) q), either h.2)
  where
    either : RangeWithin r q ⊎ ((free ≡ true) × (j ≡ kinds.Variable))
        → RangeWithin r q ⊎ ((free ≡ true) × (kind ≡ kinds.Variable))
    either (inl a) = inl a
    either (inr a) = inr (a.0, h.0 ∙ a.1)
to_ranged free kind type r o (inr h) = absurd h

both_ranged : (free : Bool) (kind k : ScalarKind) (type t : ValueType) (r s q p : Ends)
    → Scalar kind type q ≡ Scalar k t p → RangeWithin r q ⊎ ((free ≡ true) × (kind ≡ kinds.Variable))
    → RangeWithin s p ⊎ ((free ≡ true) × (k ≡ kinds.Variable))
    → RangeWithin (hull r s) q ⊎ ((free ≡ true) × (kind ≡ kinds.Variable))
both_ranged free kind k type t r s q p same (inl a) (inl b) =
    let one : p ≡ q = cc in inl (hull_within r s q a (subst (RangeWithin s) one b))
both_ranged free kind k type t r s q p same (inr a) b = inr a
both_ranged free kind k type t r s q p same (inl a) (inr b) =
    let one : kind ≡ k = cc in inr (b.0, one ∙ b.1)

hull_one : (free : Bool) (m n o : Meaning) → MeaningWithin free m o → MeaningWithin free n o
    → MeaningWithin free (hull_meaning m n) o
hull_one free m n o =
    hull_cases (λ (a b c : Meaning). MeaningWithin free a o → MeaningWithin free b o → MeaningWithin free c o)
    (λ kind k type t r s h g.
    let x = to_ranged free kind type r o h in
    let y = to_ranged free k t s o g in
    subst (MeaningWithin free (Scalar kind type (hull r s))) (sym x.1)
    (inr (refl, refl, both_ranged free kind k type t r s x.0 y.0 (sym x.1 ∙ y.1) x.2 y.2))) (λ a b same h g. h) m n

pub within_hulls : (ns : List ℕ) (ds es fs : List Entry) → EntriesWithin ns ds fs → EntriesWithin ns es fs
    → EntriesWithin ns (hulls ds es) fs
within_hulls ns [] es fs h g = h
within_hulls ns (d ∷ ds) [] fs h g = h
within_hulls ns (d ∷ ds) (e ∷ es) [] h g = absurd h
within_hulls ns (d ∷ ds) (e ∷ es) (f ∷ fs) h g = (
  h.0,
  hull_one (is_one_of ns (length fs)) d.meaning e.meaning f.meaning h.1 g.1,
  within_hulls ns ds es fs h.2 g.2,
)

-- ---- the shape

scalar_flat : (free : Bool) (m n : Meaning) → ScalarWithin free m n
    → with_range (λ r. full) m ≡ with_range (λ r. full) n
scalar_flat free (Scalar kind type r) (Scalar k t s) h = λ i. Scalar (h.0 i) (h.1 i) full
scalar_flat free (Scalar kind type r) n h = absurd h
scalar_flat free m n h = absurd h

meaning_flat : (free : Bool) (m n : Meaning) → MeaningWithin free m n
    → with_range (λ r. full) m ≡ with_range (λ r. full) n
meaning_flat free m n (inl same) = ap (with_range (λ r. full)) same
meaning_flat free m n (inr h) = scalar_flat free m n h

pub within_shape : (ns : List ℕ) (ds es : List Entry) → EntriesWithin ns ds es → shape ds ≡ shape es
within_shape ns [] [] h = refl
within_shape ns [] (e ∷ es) h = absurd h
within_shape ns (d ∷ ds) [] h = absurd h
within_shape ns (d ∷ ds) (e ∷ es) h = λ i.
    record { name = h.0 i; meaning = meaning_flat (is_one_of ns (length es)) d.meaning e.meaning h.1 i }
    ∷ within_shape ns ds es h.2 i

-- ---- variables

same_variable : (free : Bool) (m n : Meaning) → MeaningWithin free m n → is_variable (Some m) ≡ is_variable (Some n)
same_variable free m n (inl same) = ap (λ x. is_variable (Some x)) same
same_variable free (Scalar kind type r) (Scalar k t s) (inr h) = ap is_changeable h.0
same_variable free (Scalar kind type r) n (inr h) = absurd h
same_variable free m n (inr h) = absurd h

variable_step : (name : List ℕ) (t : Bool) (m : Meaning) (es : List Entry)
    → cond (is_variable (cond t (Some m) (meaning_in name es))) (cond t (Some (length es)) (number_in name es)) None
    ≡ cond t (cond (is_variable (Some m)) (Some (length es)) None) (variable_in name es)
variable_step name true m es = refl
variable_step name false m es = refl

pub variables_step : (name : List ℕ) (d e : Entry) (ds es : List Entry) → d.name ≡ e.name
    → is_variable (Some d.meaning) ≡ is_variable (Some e.meaning) → length ds ≡ length es
    → variable_in name ds ≡ variable_in name es → variable_in name (d ∷ ds) ≡ variable_in name (e ∷ es)
variables_step name d e ds es same variable long further =
    variable_step name (bytes_eq d.name name) d.meaning ds
    ∙ (λ i. cond (bytes_eq (same i) name) (cond (variable i) (Some (long i)) None) (further i))
    ∙ sym (variable_step name (bytes_eq e.name name) e.meaning es)

pub variables_within : (ns : List ℕ) (ds es : List Entry) (name : List ℕ) → EntriesWithin ns ds es
    → variable_in name ds ≡ variable_in name es
variables_within ns [] [] name h = refl
variables_within ns [] (e ∷ es) name h = absurd h
variables_within ns (d ∷ ds) [] name h = absurd h
variables_within ns (d ∷ ds) (e ∷ es) name h =
    variables_step name d e ds es h.0 (same_variable (is_one_of ns (length es)) d.meaning e.meaning h.1)
    (within_long ns ds es h.2) (variables_within ns ds es name h.2)

pub moves_stay_within : MovesStayWithin
moves_stay_within = record {
  same = within_same;
  further = within_then;
  more = within_more;
  narrowing = narrow_within;
  assigning = λ n range es. at_within n (assigned range) es (λ b m is. ranged_within b (λ type. range) m is);
  excluding = excluded_within;
  receiving = λ n es. at_within n widened es (λ b m is. ranged_within b type_range m is);
  widening = widened_within;
  taking = within_taken;
  joining = within_hulls;
  leaving = within_left;
  variables = variables_within;
  shapes = within_shape;
}
