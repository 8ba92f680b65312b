-- Names, entries and blocks of branches belong together after each move.
use Rattle.std.proofs.Common.{◌≡◌, ℕ, suc, ◌≤◌, Bool, true, false, cond, List, [], ◌∷◌, length, refl, sym, ap}
use Rattle.std.proofs.Common.{Option, Some, None, subst, arith, ◌∙◌, nat_lt, unwrap_or, option_map}
use Rattle.std.proofs.lemmas.Bool.Decides.{nat_tests}
use Rattle.std.proofs.lemmas.Bool.{le-ltb}
use Rattle.occam_parser.specs.Expressions.{Expression}
use Rattle.scalar_ranges.specs.Entries.{Entry}
use Rattle.scalar_ranges.specs.Moves.{outermost, Block, begun_with, taken, ends_with, end_of}
use Rattle.scalar_ranges.specs.Moves.{component_end, next_from, component_from, after_block, excluded}
use Rattle.scalar_ranges.specs.Moves.{exclude_from}
use Rattle.scalar_ranges.specs.Changes.{ends_seen}
use Rattle.scalar_ranges.specs.MoveLaws.{shape}
use Rattle.scalar_ranges.specs.Nesting.{names_of, EndsFit, AreNested, NestedEndsHold}
use Rattle.scalar_ranges.proofs.Found.{none_less}
use Rattle.scalar_ranges.proofs.MoveLaws.{branches_hold, components_hold, shapes_stay, shape_long}

-- ---- the outermost ones

shorter_by : {A : Type 0} (t : Bool) (x : A) (xs ys : List A) → length ys ≤ length xs
    → length (cond t (x ∷ xs) ys) ≤ suc (length xs)
shorter_by true x xs ys h = omega arith
shorter_by false x xs ys h = omega arith

pub outermost_short : {A : Type 0} (count : ℕ) (xs : List A) → length (outermost count xs) ≤ length xs
outermost_short count [] = omega arith
outermost_short count (x ∷ xs) =
    shorter_by (nat_lt (length xs) count) x xs (outermost count xs) (outermost_short count xs)

pub further_out : {A : Type 0} (count : ℕ) (x : A) (xs : List A) → count ≤ length xs
    → outermost count (x ∷ xs) ≡ outermost count xs
further_out count x xs h = ap (λ t. cond t (x ∷ xs) (outermost count xs)) (le-ltb (length xs) count h)

twice_by : {A : Type 0} (t : Bool) (low count : ℕ) (x : A) (xs : List A) → low ≤ count
    → (t ≡ false → low ≤ length xs) → outermost low (outermost count xs) ≡ outermost low xs
    → outermost low (cond t (x ∷ xs) (outermost count xs)) ≡ outermost low (x ∷ xs)
twice_by true low count x xs less far h = refl
twice_by false low count x xs less far h = h ∙ sym (further_out low x xs (far refl))

pub outermost_twice : {A : Type 0} (low count : ℕ) (xs : List A) → low ≤ count
    → outermost low (outermost count xs) ≡ outermost low xs
outermost_twice low count [] less = refl
outermost_twice low count (x ∷ xs) less =
    twice_by (nat_lt (length xs) count) low count x xs less (λ t. grind (arith, nat_tests))
    (outermost_twice low count xs less)

-- ---- names

shape_names : (es : List Entry) → names_of (shape es) ≡ names_of es
shape_names [] = refl
shape_names (e ∷ es) = ap (λ ns. e.name ∷ ns) (shape_names es)

names_alike : (ds es : List Entry) → shape ds ≡ shape es → names_of ds ≡ names_of es
names_alike ds es same = sym (shape_names ds) ∙ ap names_of same ∙ shape_names es

pub names_long : (es : List Entry) → length (names_of es) ≡ length es
names_long [] = refl
names_long (e ∷ es) = ap suc (names_long es)

names_by : (t : Bool) (count : ℕ) (e : Entry) (es : List Entry)
    → names_of (outermost count es) ≡ outermost count (names_of es)
    → names_of (cond t (e ∷ es) (outermost count es)) ≡ cond t (names_of (e ∷ es)) (outermost count (names_of es))
names_by true count e es h = refl
names_by false count e es h = h

names_outermost : (count : ℕ) (es : List Entry) → names_of (outermost count es) ≡ outermost count (names_of es)
names_outermost count [] = refl
names_outermost count (e ∷ es) =
    names_by (nat_lt (length es) count) count e es (names_outermost count es)
    ∙ ap (λ n. cond (nat_lt n count) (names_of (e ∷ es)) (outermost count (names_of es))) (sym (names_long es))

-- ---- what belongs together

pub record Fit (names : List (List ℕ)) (es : List Entry) (bs : List Block) : Type 0 where
  pub named : names ≡ names_of es
  pub nested : AreNested es bs

nested_alike : (ds es : List Entry) (bs : List Block) → shape ds ≡ shape es → AreNested es bs → AreNested ds bs
nested_alike ds es [] same nested = nested
nested_alike ds es (b ∷ bs) same nested =
    (nested.0 ∙ sym (shapes_stay.leaving ds es (length b.start) same), nested.1, nested.2)

-- entries of which nothing changed but ranges
pub fit_alike : (names : List (List ℕ)) (ds es : List Entry) (bs : List Block) → shape ds ≡ shape es → Fit names es bs
    → Fit names ds bs
fit_alike names ds es bs same fit = record {
  named = fit.named ∙ sym (names_alike ds es same);
  nested = nested_alike ds es bs same fit.nested;
}

pub fit_along : {ns ks : List (List ℕ)} {ds es : List Entry} {cs bs : List Block} → ns ≡ ks → ds ≡ es → cs ≡ bs
    → Fit ks es bs → Fit ns ds cs
fit_along {ns} {ks} {ds} {es} {cs} {bs} n e b fit =
    subst (λ k. Fit k ds cs) (sym n) (subst (λ k. Fit ks k cs) (sym e) (subst (λ k. Fit ks es k) (sym b) fit))

long_enough : (es : List Entry) (b : Block) (bs : List Block) → AreNested es (b ∷ bs) → length b.start ≤ length es
long_enough es b bs nested =
    let a = shape_long b.start in
    let k = shape_long (outermost (length b.start) es) in
    let same = ap length nested.0 in
    let short = outermost_short (length b.start) es in
    omega arith

nested_declared : (e : Entry) (es : List Entry) (bs : List Block) → AreNested es bs → AreNested (e ∷ es) bs
nested_declared e es [] nested = nested
nested_declared e es (b ∷ bs) nested = (
  nested.0 ∙ ap shape (sym (further_out (length b.start) e es (long_enough es b bs nested))),
  nested.1,
  nested.2,
)

pub fit_declared : (names : List (List ℕ)) (e : Entry) (es : List Entry) (bs : List Block) → Fit names es bs
    → Fit (e.name ∷ names) (e ∷ es) bs
fit_declared names e es bs fit = record {
  named = ap (λ ns. e.name ∷ ns) fit.named;
  nested = nested_declared e es bs fit.nested;
}

nested_left : (count : ℕ) (es : List Entry) (bs : List Block) → begun_with bs ≤ count → AreNested es bs
    → AreNested (outermost count es) bs
nested_left count es [] less nested = nested
nested_left count es (b ∷ bs) less nested =
    (nested.0 ∙ ap shape (sym (outermost_twice (length b.start) count es less)), nested.1, nested.2)

pub fit_left : (names : List (List ℕ)) (count : ℕ) (es : List Entry) (bs : List Block) → begun_with bs ≤ count
    → Fit names es bs → Fit (outermost count names) (outermost count es) bs
fit_left names count es bs less fit = record {
  named = ap (outermost count) fit.named ∙ sym (names_outermost count es);
  nested = nested_left count es bs less fit.nested;
}

pub fit_begun : (names : List (List ℕ)) (es : List Entry) (ends : Option (List Entry)) (bs : List Block)
    → EndsFit es ends → Fit names es bs → Fit names es (record { start = es; ends = ends } ∷ bs)
fit_begun names es ends bs fits fit = record {
  named = fit.named;
  nested = (ap shape (sym (none_less (length es) es (omega arith))), fits, fit.nested);
}

seen_fit : (ended : Bool) (es : List Entry) → EndsFit es (ends_seen ended es)
seen_fit true es = refl
seen_fit false es = tt

-- a block begins
pub fit_entered : (ended : Bool) (names : List (List ℕ)) (es : List Entry) (bs : List Block) → Fit names es bs
    → Fit names es (record { start = es; ends = ends_seen ended es } ∷ bs)
fit_entered ended names es bs fit = fit_begun names es (ends_seen ended es) bs (seen_fit ended es) fit

-- the innermost block is taken
pub fit_taken : (names : List (List ℕ)) (es : List Entry) (b : Block) (bs : List Block) → Fit names es (b ∷ bs)
    → Fit (outermost (length b.start) names) b.start bs
fit_taken names es b bs fit = record {
  named = ap (outermost (length b.start)) fit.named ∙ sym (names_outermost (length b.start) es)
      ∙ sym (names_alike b.start (outermost (length b.start) es) fit.nested.0);
  nested = fit.nested.2;
}

ends_alike : (start es : List Entry) (ends : Option (List Entry)) → shape start ≡ shape es → EndsFit start ends
    → EndsFit es ends
ends_alike start es None same fits = fits
ends_alike start es (Some ds) same fits = fits ∙ same

pub long_alike : (ds es : List Entry) → shape ds ≡ shape es → length ds ≡ length es
long_alike ds es same = sym (shape_long ds) ∙ ap length same ∙ shape_long es

-- the branches from here on begin with other ranges
nested_restarted : (es start : List Entry) (b : Block) (bs : List Block) → shape start ≡ shape b.start
    → AreNested es (b ∷ bs) → AreNested es (record { start = start; ends = b.ends } ∷ bs)
nested_restarted es start b bs same nested = (
  same ∙ nested.0 ∙ ap (λ n. shape (outermost n es)) (sym (long_alike start b.start same)),
  ends_alike b.start start b.ends (sym same) nested.1,
  nested_alike start b.start bs same nested.2,
)

joined_fit : (start es : List Entry) (ends : Option (List Entry)) → EndsFit start ends → shape es ≡ shape start
    → shape (ends_with ends es) ≡ shape start
joined_fit start es None fits same = same
joined_fit start es (Some ds) fits same = shapes_stay.joining ds es ∙ fits

-- the ends after one branch more
pub ends_fit : (es : List Entry) (b : Block) (bs : List Block) → AreNested es (b ∷ bs)
    → EndsFit b.start (Some (ends_with b.ends (end_of b es)))
ends_fit es b bs nested = joined_fit b.start (end_of b es) b.ends nested.1 (sym nested.0)

taken_fit : (ns : List ℕ) (start es : List Entry) (ends : Option (List Entry)) → EndsFit start ends
    → shape es ≡ shape start → EndsFit start (option_map (λ ds. taken ns ds es) ends)
taken_fit ns start es None fits same = fits
taken_fit ns start es (Some ds) fits same = shapes_stay.taking ds es ns (fits ∙ sym same) ∙ fits

-- the ends after one component more
pub component_fit : (ns : List ℕ) (es : List Entry) (b : Block) (bs : List Block) → AreNested es (b ∷ bs)
    → EndsFit b.start (component_end ns b es)
component_fit ns es b bs nested = taken_fit ns b.start (end_of b es) b.ends nested.1 (sym nested.0)

-- where there is no block, all names are left
whole_fit : (names : List (List ℕ)) (es : List Entry) → Fit names es [] → Fit (outermost (length es) names) es []
whole_fit names es fit =
    let long = names_long es in
    let same = ap length fit.named in
    fit_along (none_less (length es) names (omega arith)) refl refl fit

-- a branch ends, and the next one begins
turned_fit : (names : List (List ℕ)) (es : List Entry) (ends : Option (List Entry)) (b : Block) (bs : List Block)
    → EndsFit b.start ends → Fit names es (b ∷ bs)
    → Fit (outermost (length b.start) names) b.start (record { start = b.start; ends = ends } ∷ bs)
turned_fit names es ends b bs fits fit =
    fit_begun (outermost (length b.start) names) b.start ends bs fits (fit_taken names es b bs fit)

pub fit_next : (names : List (List ℕ)) (es : List Entry) (bs : List Block) → Fit names es bs
    → Fit (outermost (length (next_from es bs).entries) names) (next_from es bs).entries (next_from es bs).blocks
fit_next names es [] fit = whole_fit names es fit
fit_next names es (b ∷ bs) fit =
    turned_fit names es (Some (ends_with b.ends (end_of b es))) b bs (ends_fit es b bs fit.nested) fit

pub fit_component : (ns : List ℕ) (names : List (List ℕ)) (es : List Entry) (bs : List Block) → Fit names es bs
    → Fit (outermost (length (component_from ns es bs).entries) names) (component_from ns es bs).entries
    (component_from ns es bs).blocks
fit_component ns names es [] fit = whole_fit names es fit
fit_component ns names es (b ∷ bs) fit =
    turned_fit names es (component_end ns b es) b bs (component_fit ns es b bs fit.nested) fit

-- the branches from here on begin where a condition does not hold
pub fit_excluded : (condition : Expression) (names : List (List ℕ)) (es : List Entry) (bs : List Block)
    → Fit names es bs → Fit names es (exclude_from condition es bs)
fit_excluded condition names es [] fit = fit
fit_excluded condition names es (b ∷ bs) fit = record {
  named = fit.named;
  nested = nested_restarted es (excluded condition es b.start) b bs (shapes_stay.excluding es b.start condition)
      fit.nested;
}

ended_by : (names : List (List ℕ)) (start : List Entry) (ends : Option (List Entry)) (bs : List Block)
    → EndsFit start ends → Fit (outermost (length start) names) start bs
    → Fit (outermost (length (unwrap_or ends start)) names) (unwrap_or ends start) bs
ended_by names start None bs fits fit = fit
ended_by names start (Some ds) bs fits fit =
    subst (λ n. Fit (outermost n names) ds bs) (sym (long_alike ds start fits))
    (fit_alike (outermost (length start) names) ds start bs fits fit)

-- the innermost block ends
pub fit_ended : (names : List (List ℕ)) (es : List Entry) (bs : List Block) → Fit names es bs
    → Fit (outermost (length (after_block es bs).entries) names) (after_block es bs).entries (after_block es bs).blocks
fit_ended names es [] fit = whole_fit names es fit
fit_ended names es (b ∷ bs) fit = ended_by names b.start b.ends bs fit.nested.1 (fit_taken names es b bs fit)

-- ---- the law

alike_ends : (start es : List Entry) (ends : Option (List Entry)) → EndsFit start ends → shape es ≡ shape start
    → (ds : List Entry) → ends ≡ Some ds → shape ds ≡ shape es
alike_ends start es None fits same ds is = absurd (cc)
alike_ends start es (Some ks) fits same ds is = let k : ks ≡ ds = cc in ap shape (sym k) ∙ fits ∙ sym same

pub nested_ends_hold : NestedEndsHold
nested_ends_hold es b bs env nested meets =
    branches_hold.this_one b.ends (end_of b es) env
    (alike_ends b.start (end_of b es) b.ends nested.1 (sym nested.0)) meets

pub ruleset laws_of_branches = (branches_hold, nested_ends_hold, components_hold)
