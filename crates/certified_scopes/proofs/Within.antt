-- What moves leave of a scope lies within what it was.
use Rattle.std.proofs.Common.{◌≡◌, ℕ, suc, Bool, true, false, cond, List, [], ◌∷◌, length, inl}
use Rattle.std.proofs.Common.{inr, refl, sym, ap, subst, ◌∙◌, arith, nat_lt, ◌⊎◌}
use Rattle.std.proofs.lemmas.Int.{ints, clamps}
use Rattle.word_arithmetic.specs.Range.{Ends, hull}
use Rattle.occam_parser.specs.declared.tree.ValueType.{ValueType}
use Rattle.scalar_ranges.specs.declared.scope.ScalarKind.{ScalarKind}
use Rattle.scalar_ranges.specs.declared.scope.ScalarKind.TheVariants as kinds
use Rattle.scalar_ranges.specs.Entries.{Meaning, Constant, Scalar, Array, Channel, Channels, Procedure, Entry}
use Rattle.scalar_ranges.specs.Entries.{type_range}
use Rattle.scalar_ranges.specs.MoveLaws.{shape}
use Rattle.scalar_ranges.specs.Moves.{outermost, widened, widened_if, is_one_of, widen, hull_meaning, hulls}
use Rattle.scalar_ranges.proofs.MoveLaws.{flat}
use Rattle.program_meaning.specs.RangesWithin.{RangeWithin, MeaningWithin, EntriesWithin}
use Rattle.usage_checks.specs.TypedRanges.{IsInType, AreInTypes}
use Rattle.certified_scopes.specs.Within.{index_of_loop, indices_of, IsNarrower, TellsMore, LieWithin, ScopesLieWithin}
use Rattle.certified_scopes.proofs.Alike.{alike_cases}
use Rattle.certified_scopes.proofs.Indices.{index_there, shape_there, hull_kind}

-- ---- one name

narrower_then : (m n o : Meaning) → IsNarrower m n → IsNarrower n o → IsNarrower m o
narrower_then (Scalar kind type r) (Scalar k t s) (Scalar j u q) h g =
    let a = h.3 in
    let b = g.3 in
    (h.0 ∙ g.0, h.1 ∙ g.1, g.2, (omega (arith, ints, a.0, b.0), omega (arith, ints, a.1, b.1)))
narrower_then (Scalar kind type r) (Scalar k t s) o h g = absurd g
narrower_then (Scalar kind type r) n o h g = absurd h
narrower_then m n o h g = absurd h

more_then : (m n o : Meaning) → TellsMore m n → TellsMore n o → TellsMore m o
more_then m n o (inl same) g = subst (λ (x : Meaning). TellsMore x o) (sym same) g
more_then m n o (inr h) (inl same) = inr (subst (λ (x : Meaning). IsNarrower m x) same h)
more_then m n o (inr h) (inr g) = inr (narrower_then m n o h g)

-- a scalar with a range within, which is the same if it is an index
scalar_more : (kind : ScalarKind) (type : ValueType) (r s : Ends)
    → index_of_loop (Scalar kind type r) ≡ index_of_loop (Scalar kind type s) → RangeWithin r s
    → TellsMore (Scalar kind type r) (Scalar kind type s)
scalar_more kinds.Variable type r s same within = inr (refl, refl, λ is. absurd (cc is), within)
scalar_more kinds.Value type r s same within = inr (refl, refl, λ is. absurd (cc is), within)
scalar_more kinds.Reference type r s same within = inr (refl, refl, λ is. absurd (cc is), within)
scalar_more kinds.Index type r s same within =
    let one : r ≡ s = cc in
    inl (ap (λ (x : Ends). Scalar kinds.Index type x) one)

pub alike_more : (kind k : ScalarKind) (type t : ValueType) (r s : Ends) → kind ≡ k → type ≡ t
    → index_of_loop (Scalar kind type r) ≡ index_of_loop (Scalar k t s) → RangeWithin r s
    → TellsMore (Scalar kind type r) (Scalar k t s)
alike_more kind k type t r s same_kind same_type same within =
    let to : Scalar kind type s ≡ Scalar k t s = λ i. Scalar (same_kind i) (same_type i) s in
    subst (λ (x : Meaning). TellsMore (Scalar kind type r) x) to
    (scalar_more kind type r s (same ∙ ap index_of_loop (sym to)) within)

-- what is within, where nothing is free
fixed_more : (m n : Meaning) → MeaningWithin false m n → index_of_loop m ≡ index_of_loop n → TellsMore m n
fixed_more m n (inl is) same = inl is
fixed_more (Scalar kind type r) (Scalar k t s) (inr h) same = by_range h.2
  where
    by_range : RangeWithin r s ⊎ ((false ≡ true) × (k ≡ kinds.Variable)) → TellsMore (Scalar kind type r) (Scalar k t s)
    by_range (inl within) = alike_more kind k type t r s h.0 h.1 same within
    by_range (inr free) = absurd (cc free.0)
fixed_more (Scalar kind type r) n (inr h) same = absurd h
fixed_more m n (inr h) same = absurd h

-- of what may be any number of its type at most its type is known
widened_more : (n : Meaning) → IsInType n → TellsMore n (widened n)
widened_more (Scalar kinds.Variable type r) typed = inr (refl, refl, λ is. absurd (cc is), typed)
widened_more (Scalar kinds.Value type r) typed = inl refl
widened_more (Scalar kinds.Reference type r) typed = inl refl
widened_more (Scalar kinds.Index type r) typed = inl refl
widened_more (Constant type value) typed = inl refl
widened_more (Array kind type size r) typed = inl refl
widened_more (Channel type) typed = inl refl
widened_more (Channels type size) typed = inl refl
widened_more (Procedure number) typed = inl refl

-- no other scalar is free
kept_range : (k : ScalarKind) (r s : Ends) → (k ≡ kinds.Variable → ⊥)
    → RangeWithin r s ⊎ ((true ≡ true) × (k ≡ kinds.Variable)) → RangeWithin r s
kept_range k r s other (inl within) = within
kept_range k r s other (inr free) = absurd (other free.1)

freed_more : (m n : Meaning) → MeaningWithin true m n → index_of_loop m ≡ index_of_loop n → IsInType m
    → TellsMore m (widened n)
freed_more m n (inl is) same typed =
    subst (λ (x : Meaning). TellsMore x (widened n)) (sym is) (widened_more n (subst IsInType is typed))
freed_more (Scalar kind type r) (Scalar kinds.Variable t s) (inr h) same typed =
    alike_more kind kinds.Variable type t r (type_range t) h.0 h.1 same
    (subst (λ (u : ValueType). RangeWithin r (type_range u)) h.1 typed)
freed_more (Scalar kind type r) (Scalar kinds.Value t s) (inr h) same typed =
    alike_more kind kinds.Value type t r s h.0 h.1 same (kept_range kinds.Value r s (λ is. absurd (cc is)) h.2)
freed_more (Scalar kind type r) (Scalar kinds.Reference t s) (inr h) same typed =
    alike_more kind kinds.Reference type t r s h.0 h.1 same (kept_range kinds.Reference r s (λ is. absurd (cc is)) h.2)
freed_more (Scalar kind type r) (Scalar kinds.Index t s) (inr h) same typed =
    alike_more kind kinds.Index type t r s h.0 h.1 same (kept_range kinds.Index r s (λ is. absurd (cc is)) h.2)
freed_more (Scalar kind type r) n (inr h) same typed = absurd h
freed_more m n (inr h) same typed = absurd h

more_by : (free : Bool) (m : Meaning) (e : Entry) → MeaningWithin free m e.meaning
    → index_of_loop m ≡ index_of_loop e.meaning → IsInType m → TellsMore m (widened_if free e).meaning
more_by false m e within same typed = fixed_more m e.meaning within same
more_by true m e within same typed = freed_more m e.meaning within same typed

-- both of two meanings are within their hull
abbrev BothTellMore : Meaning → Meaning → Type 0
BothTellMore m n =
    index_of_loop m ≡ index_of_loop n → TellsMore m (hull_meaning m n) × TellsMore n (hull_meaning m n)

scalars_more : (kind : ScalarKind) (type : ValueType) (r s : Ends)
    → BothTellMore (Scalar kind type r) (Scalar kind type s)
scalars_more kind type r s same =
    let first = sym (hull_kind kind kind type type r s same) in (
      scalar_more kind type r (hull r s) first (omega (arith, ints, clamps), omega (arith, ints, clamps)),
      scalar_more kind type s (hull r s) (sym same ∙ first) (omega (arith, ints, clamps), omega (arith, ints, clamps)),
    )

same_more : (m : Meaning) → BothTellMore m m
same_more (Scalar kind type r) same = scalars_more kind type r r same
same_more (Constant type value) same = (inl refl, inl refl)
same_more (Array kind type size range) same = (inl refl, inl refl)
same_more (Channel type) same = (inl refl, inl refl)
same_more (Channels type size) same = (inl refl, inl refl)
same_more (Procedure number) same = (inl refl, inl refl)

hull_more : (m n : Meaning) → flat m ≡ flat n → BothTellMore m n
hull_more m n alike = alike_cases BothTellMore scalars_more same_more m n alike

-- ---- scopes

lies_itself : (es : List Entry) → LieWithin es es
lies_itself [] = tt
lies_itself (e ∷ es) = (inl refl, lies_itself es)

lies_further : (ds es fs : List Entry) → LieWithin ds es → LieWithin es fs → LieWithin ds fs
lies_further [] [] [] first second = tt
lies_further [] [] (f ∷ fs) first second = absurd second
lies_further [] (e ∷ es) fs first second = absurd first
lies_further (d ∷ ds) [] fs first second = absurd first
lies_further (d ∷ ds) (e ∷ es) [] first second = absurd second
lies_further (d ∷ ds) (e ∷ es) (f ∷ fs) first second =
    (more_then d.meaning e.meaning f.meaning first.0 second.0, lies_further ds es fs first.1 second.1)

pub lies_long : (ds es : List Entry) → LieWithin ds es → length ds ≡ length es
lies_long [] [] lies = refl
lies_long [] (e ∷ es) lies = absurd lies
lies_long (d ∷ ds) [] lies = absurd lies
lies_long (d ∷ ds) (e ∷ es) lies = ap suc (lies_long ds es lies.1)

left_by : (t : Bool) (count : ℕ) (d e : Entry) (ds es : List Entry) → LieWithin (d ∷ ds) (e ∷ es)
    → LieWithin (outermost count ds) (outermost count es)
    → LieWithin (cond t (d ∷ ds) (outermost count ds)) (cond t (e ∷ es) (outermost count es))
left_by true count d e ds es lies further = lies
left_by false count d e ds es lies further = further

lies_left : (count : ℕ) (ds es : List Entry) → LieWithin ds es → LieWithin (outermost count ds) (outermost count es)
lies_left count [] [] lies = tt
lies_left count [] (e ∷ es) lies = absurd lies
lies_left count (d ∷ ds) [] lies = absurd lies
lies_left count (d ∷ ds) (e ∷ es) lies =
    subst (λ (i : ℕ). LieWithin (cond (nat_lt i count) (d ∷ ds) (outermost count ds)) (outermost count (e ∷ es)))
    (sym (lies_long ds es lies.1))
    (left_by (nat_lt (length es) count) count d e ds es lies (lies_left count ds es lies.1))

lies_narrower : (ds es : List Entry) → EntriesWithin [] ds es → indices_of ds ≡ indices_of es → LieWithin ds es
lies_narrower [] [] within same = tt
lies_narrower [] (e ∷ es) within same = absurd within
lies_narrower (d ∷ ds) [] within same = absurd within
lies_narrower (d ∷ ds) (e ∷ es) within same =
    let both = index_there d e ds es same in
    (fixed_more d.meaning e.meaning within.1 both.0, lies_narrower ds es within.2 both.1)

lies_widened : (ns : List ℕ) (ds es : List Entry) → EntriesWithin ns ds es → indices_of ds ≡ indices_of es
    → AreInTypes ds → LieWithin ds (widen ns es)
lies_widened ns [] [] within same typed = tt
lies_widened ns [] (e ∷ es) within same typed = absurd within
lies_widened ns (d ∷ ds) [] within same typed = absurd within
lies_widened ns (d ∷ ds) (e ∷ es) within same typed =
    let both = index_there d e ds es same in (
      more_by (is_one_of ns (length es)) d.meaning e within.1 both.0 typed.0,
      lies_widened ns ds es within.2 both.1 typed.1,
    )

-- variables that may be any numbers of their types may be no more
widened_twice : (m : Meaning) → widened (widened m) ≡ widened m
widened_twice (Scalar kinds.Variable type r) = refl
widened_twice (Scalar kinds.Value type r) = refl
widened_twice (Scalar kinds.Reference type r) = refl
widened_twice (Scalar kinds.Index type r) = refl
widened_twice (Constant type value) = refl
widened_twice (Array kind type size r) = refl
widened_twice (Channel type) = refl
widened_twice (Channels type size) = refl
widened_twice (Procedure number) = refl

if_twice : (t : Bool) (e : Entry) → widened_if t (widened_if t e) ≡ widened_if t e
if_twice true e = ap (λ (m : Meaning). record { name = e.name; meaning = m }) (widened_twice e.meaning)
if_twice false e = refl

pub widen_long : (ns : List ℕ) (es : List Entry) → length (widen ns es) ≡ length es
widen_long ns [] = refl
widen_long ns (e ∷ es) = ap suc (widen_long ns es)

widen_twice : (ns : List ℕ) (es : List Entry) → widen ns (widen ns es) ≡ widen ns es
widen_twice ns [] = refl
widen_twice ns (e ∷ es) =
    let t = is_one_of ns (length es) in
    ap (λ (i : ℕ). widened_if (is_one_of ns i) (widened_if t e) ∷ widen ns (widen ns es)) (widen_long ns es)
    ∙ ap (λ (x : Entry). x ∷ widen ns (widen ns es)) (if_twice t e)
    ∙ ap (λ (xs : List Entry). widened_if t e ∷ xs) (widen_twice ns es)

lies_turned : (ns : List ℕ) (ds es : List Entry) → EntriesWithin ns ds (widen ns es)
    → indices_of ds ≡ indices_of (widen ns es) → AreInTypes ds → LieWithin ds (widen ns es)
lies_turned ns ds es within same typed =
    subst (LieWithin ds) (widen_twice ns es) (lies_widened ns ds (widen ns es) within same typed)

lies_hulls : (ds es : List Entry) → shape ds ≡ shape es → indices_of ds ≡ indices_of es
    → LieWithin ds (hulls ds es) × LieWithin es (hulls ds es)
lies_hulls [] [] alike same = (tt, tt)
lies_hulls [] (e ∷ es) alike same = absurd (cc alike)
lies_hulls (d ∷ ds) [] alike same = absurd (cc alike)
lies_hulls (d ∷ ds) (e ∷ es) alike same =
    let shaped = shape_there d e ds es alike in
    let both = index_there d e ds es same in
    let here = hull_more d.meaning e.meaning shaped.0 both.0 in
    let rest = lies_hulls ds es shaped.1 both.1 in
    ((here.0, rest.0), (here.1, rest.1))

pub scopes_lie_within : ScopesLieWithin
scopes_lie_within = record {
  itself = lies_itself;
  further = lies_further;
  leaving = lies_left;
  narrower = lies_narrower;
  widened = lies_widened;
  turned = lies_turned;
  earlier = λ ds es alike same. (lies_hulls ds es alike same).0;
  this_one = λ ds es alike same. (lies_hulls ds es alike same).1;
}
