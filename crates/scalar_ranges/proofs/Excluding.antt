-- What is known where further choices begin is met where a condition does not hold.
use Rattle.std.proofs.Common.{◌≡◌, ℕ, suc, ℤ, ◌<◌, Bool, true, false, cond, List, [], ◌∷◌, length, Option, Some, None}
use Rattle.std.proofs.Common.{refl, sym, ap, subst, arith, ◌∙◌, nat_eq, nat_lt, bytes_eq}
use Rattle.std.proofs.lemmas.Bool.{eqb-true}
use Rattle.small_laws.proofs.Comparisons.{gt-eqb}
use Rattle.word_arithmetic.specs.Range.{Ends, InRange}
use Rattle.word_arithmetic.specs.Comparison.{compares}
use Rattle.scalar_ranges.specs.Entries.{Entry, number_in}
use Rattle.scalar_ranges.specs.Environments.{Held, Nothing, One, Binding, Environment, held_in, Meets}
use Rattle.scalar_ranges.specs.Narrowing.{Tested, test_of, opposite, left_of, with_range, by_test}
use Rattle.scalar_ranges.specs.Moves.{outermost, at_number, with_meaning, excluded_at, excluded_by}
use Rattle.scalar_ranges.specs.MoveLaws.{ExcludingHolds}
use Rattle.scalar_ranges.proofs.Named.{by_number, left_by, changed_at, unchanged}
use Rattle.scalar_ranges.proofs.MoveLaws.{as_long}
use Rattle.scalar_ranges.proofs.NarrowingLaws.{with_range_held, left_holds, IsTrueOf, test_holds}

-- what the name with this number holds
abbrev held_at : ℕ → Environment → Held
held_at n [] = Nothing
held_at n (b ∷ bs) = cond (nat_eq (length bs) n) b.held (held_at n bs)

held_found : (name : List ℕ) (n : ℕ) (es : List Entry) (env : Environment) → Meets env es
    → number_in name es ≡ Some n → held_in name env ≡ held_at n env
held_found name n [] env meets is = absurd (cc)
held_found name n (e ∷ es) [] meets is = absurd meets
held_found name n (e ∷ es) (b ∷ bs) meets is =
    ap (λ k. cond (bytes_eq k name) b.held (held_in name bs)) meets.0
    ∙ by_number (bytes_eq e.name name) name es n b.held (held_in name bs) (held_at n bs) is
    (λ h. held_found name n es bs meets.2 h)
    ∙ ap (λ k. cond (nat_eq k n) b.held (held_at n bs)) (sym (as_long bs es meets.2))

below_by : (t : Bool) (n : ℕ) (b : Binding) (bs : Environment) (v : ℤ) → nat_eq (length bs) n ≡ t
    → cond t b.held (held_at n bs) ≡ One v → (held_at n bs ≡ One v → n < length bs) → n < suc (length bs)
below_by true n b bs v test is further = let same = eqb-true (length bs) n test in omega arith
below_by false n b bs v test is further = let less = further is in omega arith

held_below : (n : ℕ) (env : Environment) (v : ℤ) → held_at n env ≡ One v → n < length env
held_below n [] v is = absurd (cc)
held_below n (b ∷ bs) v is = below_by (nat_eq (length bs) n) n b bs v refl is (held_below n bs v)

-- what one of the outermost names holds
outer_by : (t : Bool) (n count : ℕ) (b : Binding) (bs : Environment) (v : ℤ)
    → held_at n (cond t (b ∷ bs) (outermost count bs)) ≡ One v
    → (held_at n (outermost count bs) ≡ One v → held_at n bs ≡ One v) → held_at n (b ∷ bs) ≡ One v
outer_by true n count b bs v is further = is
outer_by false n count b bs v is further =
    ap (λ t. cond t b.held (held_at n bs)) (gt-eqb (length bs) n (held_below n bs v (further is))) ∙ further is

held_outer : (n count : ℕ) (env : Environment) (v : ℤ) → held_at n (outermost count env) ≡ One v
    → held_at n env ≡ One v
held_outer n count [] v is = is
held_outer n count (b ∷ bs) v is = outer_by (nat_lt (length bs) count) n count b bs v is (held_outer n count bs v)

-- the entry with a number is changed
at_by : (t : Bool) (f : Ends → Ends) (n : ℕ) (b : Binding) (bs : Environment) (e : Entry) (es : List Entry)
    → Meets (b ∷ bs) (e ∷ es)
    → ((v : ℤ) (r : Ends) → cond t b.held (held_at n bs) ≡ One v → InRange r v → InRange (f r) v)
    → (((v : ℤ) (r : Ends) → held_at n bs ≡ One v → InRange r v → InRange (f r) v)
    → Meets bs (at_number (with_meaning (with_range f)) n es))
    → Meets (b ∷ bs) (cond t (with_meaning (with_range f) e ∷ es) (e ∷ at_number (with_meaning (with_range f)) n es))
at_by true f n b bs e es meets keeps further =
    (meets.0, with_range_held f e.meaning b.held keeps meets.1, meets.2)
at_by false f n b bs e es meets keeps further = (meets.0, meets.1, further keeps)

at_meets : (f : Ends → Ends) (n : ℕ) (es : List Entry) (env : Environment) → Meets env es
    → ((v : ℤ) (r : Ends) → held_at n env ≡ One v → InRange r v → InRange (f r) v)
    → Meets env (at_number (with_meaning (with_range f)) n es)
at_meets f n [] env meets keeps = meets
at_meets f n (e ∷ es) [] meets keeps = absurd meets
at_meets f n (e ∷ es) (b ∷ bs) meets keeps =
    subst (λ k. Meets (b ∷ bs) (cond (nat_eq k n) (with_meaning (with_range f) e ∷ es)
    (e ∷ at_number (with_meaning (with_range f)) n es))) (as_long bs es meets.2)
    (at_by (nat_eq (length bs) n) f n b bs e es meets keeps (λ k. at_meets f n es bs meets.2 k))

module _ (es ds : List Entry) (env : Environment) (meets : Meets env es) (around : Meets (outermost (length ds) env) ds)
  where
    numbered_meets : (o : Option ℕ) (t : Tested) → number_in t.name es ≡ o → IsTrueOf env false t
        → Meets (outermost (length ds) env) (excluded_at o t ds)
    numbered_meets None t number is = around
    numbered_meets (Some n) t number is =
        let f = left_of (opposite t.comparison) t.constant in
        at_meets f n ds (outermost (length ds) env) around
        (λ v r h i.
        let held = held_found t.name n es env meets number ∙ held_outer n (length ds) env v h in
        let same : is.value ≡ v = cc (is.held, held) in
        left_holds (opposite t.comparison) t.constant v r i
        (subst (λ x. compares (opposite t.comparison) x t.constant ≡ true) same is.compares))

    excluded_meets : (o : Option Tested) → ((t : Tested) → o ≡ Some t → IsTrueOf env false t)
        → Meets (outermost (length ds) env) (excluded_by o es ds)
    excluded_meets None truth = around
    excluded_meets (Some t) truth = numbered_meets (number_in t.name es) t refl (truth t refl)

same_numbered : (o : Option ℕ) (t : Tested) (es : List Entry) → number_in t.name es ≡ o
    → excluded_at o t es ≡ by_test es false (Some t)
same_numbered None t es number = sym (unchanged (left_by t false) t.name es number)
same_numbered (Some n) t es number = sym (changed_at (left_by t false) t.name n es number)

same_entries : (o : Option Tested) (es : List Entry) → excluded_by o es es ≡ by_test es false o
same_entries None es = refl
same_entries (Some t) es = same_numbered (number_in t.name es) t es refl

pub excluding_holds : ExcludingHolds
excluding_holds = record {
  further = λ es ds env e t meets around is truth. excluded_meets es ds env meets around (test_of es e)
      (λ k test. test_holds es env meets e k false t is test truth);
  here = λ es e. same_entries (test_of es e) es;
}
