-- What is known of the names around a block where a choice of it was not taken.
use Rattle.std.proofs.Common.{◌≡◌, ℕ, suc, Bool, true, false, cond, List, [], ◌∷◌, length, Option, Some, None}
use Rattle.std.proofs.Common.{refl, sym, ap, ◌∙◌, arith, nat_eq, nat_lt}
use Rattle.std.proofs.lemmas.Bool.{cond_both, ltb-false}
use Rattle.std.proofs.lemmas.Bool.Decides.{nat_tests}
use Rattle.scalar_ranges.specs.Entries.{Entry, number_in}
use Rattle.scalar_ranges.specs.Moves.{outermost, at_number, with_meaning, excluded_at, excluded_by}
use Rattle.scalar_ranges.specs.Narrowing.{Tested, test_of, with_range, changed, by_test, left_of, opposite}
use Rattle.scalar_ranges.proofs.Named.{changed_at, unchanged}
use Rattle.scalar_ranges.proofs.Nesting.{outermost_short}
use Rattle.scalar_ranges.proofs.Rows.{none_at}
use Rattle.certified_scopes.specs.Within.{ExcludedIsNarrowed}

at_long : {A : Type 0} (f : A → A) (n : ℕ) (xs : List A) → length (at_number f n xs) ≡ length xs
at_long f n [] = refl
at_long f n (x ∷ xs) =
    cond_both (nat_eq (length xs) n) (f x ∷ xs) (x ∷ at_number f n xs) (λ ys. length ys ≡ suc (length xs)) (λ t. refl)
    (λ t. ap suc (at_long f n xs))

-- the outermost of a list in which one is changed
outer_by : {A : Type 0} (inside here : Bool) (f : A → A) (n count : ℕ) (x : A) (xs : List A)
    → nat_lt (length xs) count ≡ inside → nat_eq (length xs) n ≡ here
    → outermost count (at_number f n xs) ≡ at_number f n (outermost count xs)
    → outermost count (cond here (f x ∷ xs) (x ∷ at_number f n xs)) ≡ at_number f n
    (cond inside (x ∷ xs) (outermost count xs))
outer_by true true f n count x xs is at further =
    ap (λ (t : Bool). cond t (f x ∷ xs) (outermost count xs)) is
    ∙ sym (ap (λ (t : Bool). cond t (f x ∷ xs) (x ∷ at_number f n xs)) at)
outer_by true false f n count x xs is at further =
    ap (λ (i : ℕ). cond (nat_lt i count) (x ∷ at_number f n xs) (outermost count (at_number f n xs))) (at_long f n xs)
    ∙ ap (λ (t : Bool). cond t (x ∷ at_number f n xs) (outermost count (at_number f n xs))) is
    ∙ sym (ap (λ (t : Bool). cond t (f x ∷ xs) (x ∷ at_number f n xs)) at)
outer_by false true f n count x xs is at further =
    let above = ltb-false (length xs) count is in
    let same : length xs ≡ n = grind (arith, nat_tests, at) in
    let short = outermost_short count xs in
    ap (λ (t : Bool). cond t (f x ∷ xs) (outermost count xs)) is
    ∙ sym (none_at f n (outermost count xs) (omega (arith, above, same, short)))
outer_by false false f n count x xs is at further =
    ap (λ (i : ℕ). cond (nat_lt i count) (x ∷ at_number f n xs) (outermost count (at_number f n xs))) (at_long f n xs)
    ∙ ap (λ (t : Bool). cond t (x ∷ at_number f n xs) (outermost count (at_number f n xs))) is ∙ further

outer_at : {A : Type 0} (f : A → A) (n count : ℕ) (xs : List A)
    → outermost count (at_number f n xs) ≡ at_number f n (outermost count xs)
outer_at f n count [] = refl
outer_at f n count (x ∷ xs) =
    outer_by (nat_lt (length xs) count) (nat_eq (length xs) n) f n count x xs refl refl (outer_at f n count xs)

by_named : (o : Option ℕ) (t : Tested) (es ds : List Entry) → number_in t.name es ≡ o → outermost (length ds) es ≡ ds
    → outermost (length ds) (changed (left_of (opposite t.comparison) t.constant) t.name es) ≡ excluded_at o t ds
by_named None t es ds is same =
    ap (λ (xs : List Entry). outermost (length ds) xs)
    (unchanged (left_of (opposite t.comparison) t.constant) t.name es is)
    ∙ same
by_named (Some n) t es ds is same =
    let f = with_range (left_of (opposite t.comparison) t.constant) in
    ap (λ (xs : List Entry). outermost (length ds) xs)
    (changed_at (left_of (opposite t.comparison) t.constant) t.name n es is)
    ∙ outer_at (with_meaning f) n (length ds) es
    ∙ ap (λ (xs : List Entry). at_number (with_meaning f) n xs) same

by_tested : (o : Option Tested) (es ds : List Entry) → outermost (length ds) es ≡ ds
    → outermost (length ds) (by_test es false o) ≡ excluded_by o es ds
by_tested None es ds same = same
by_tested (Some t) es ds same = by_named (number_in t.name es) t es ds refl same

pub excluded_is_narrowed : ExcludedIsNarrowed
excluded_is_narrowed es ds e same = by_tested (test_of es e) es ds same
