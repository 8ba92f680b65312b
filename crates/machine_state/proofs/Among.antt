-- What is in a list, and what a test says of it.
use Rattle.std.proofs.Common.{◌≡◌, Bool, true, false, ◌⊎◌, inl, inr, List, [], ◌∷◌, ◌++◌, length, map, filter, refl}
use Rattle.std.proofs.Common.{sym, ap, ◌∙◌, subst, arith, eqb-true, if◌then◌else◌}
use Rattle.std.specs.Prelude.{◌==◌}
use Rattle.std.specs.List.{list_any, list_all}
use Rattle.std.proofs.lemmas.Bool.{and_parts, or_cases, or_left, or_right}
use Rattle.machine_state.specs.Ownership.{IsAmong}

pub among_more : {A : Type 0} (a : A) (xs ys : List A) → IsAmong a (xs ++ ys) → IsAmong a xs ⊎ IsAmong a ys
among_more a [] ys h = inr h
among_more a (x ∷ xs) ys (inl here) = inl (inl here)
among_more a (x ∷ xs) ys (inr there) = elim (among_more a xs ys there) [
  | inl p ↦ inl (inr p)
  | inr q ↦ inr q
]

pub among_right : {A : Type 0} (a : A) (xs ys : List A) → IsAmong a ys → IsAmong a (xs ++ ys)
among_right a [] ys h = h
among_right a (x ∷ xs) ys h = inr (among_right a xs ys h)

pub among_left : {A : Type 0} (a : A) (xs ys : List A) → IsAmong a xs → IsAmong a (xs ++ ys)
among_left a [] ys h = absurd h
among_left a (x ∷ xs) ys (inl here) = inl here
among_left a (x ∷ xs) ys (inr there) = inr (among_left a xs ys there)

pub all_among : {A : Type 0} (test : A → Bool) (xs : List A) (a : A) → list_all test xs ≡ true → IsAmong a xs
    → test a ≡ true
all_among test [] a all h = absurd h
all_among test (x ∷ xs) a all (inl here) = subst (λ y. test y ≡ true) here (and_parts _ _ all).0
all_among test (x ∷ xs) a all (inr there) = all_among test xs a (and_parts _ _ all).1 there

pub any_among : {A : Type 0} (test : A → Bool) (xs : List A) (a : A) → IsAmong a xs → test a ≡ true
    → list_any test xs ≡ true
any_among test [] a h passes = absurd h
any_among test (x ∷ xs) a (inl here) passes = or_left _ _ (subst (λ y. test y ≡ true) (sym here) passes)
any_among test (x ∷ xs) a (inr there) passes = or_right (test x) _ (any_among test xs a there passes)

pub mapped_among : {A B : Type 0} (f : A → B) (xs : List A) (a : A) → IsAmong a xs → IsAmong (f a) (map f xs)
mapped_among f [] a h = h
mapped_among f (x ∷ xs) a (inl here) = inl (ap f here)
mapped_among f (x ∷ xs) a (inr there) = inr (mapped_among f xs a there)

-- one that passes the first test, and the second as all do
pub any_all : {A : Type 0} (f g : A → Bool) (xs : List A) → list_any f xs ≡ true → list_all g xs ≡ true
    → (x : A) × (f x ≡ true) × (g x ≡ true)
any_all f g [] some all = absurd (cc)
any_all f g (x ∷ xs) some all = elim (or_cases (f x) (list_any f xs) some) [
  | inl here ↦ (x, here, (and_parts _ _ all).0)
  | inr there ↦ any_all f g xs there (and_parts _ _ all).1
]

pub filtered : {A : Type 0} (test : A → Bool) (xs : List A) (a : A) → IsAmong a (filter test xs)
    → IsAmong a xs × (test a ≡ true)
filtered test [] a h = absurd h
filtered test (x ∷ xs) a h = on (filtered test xs a) (test x) refl h
  where
    on : (IsAmong a (filter test xs) → IsAmong a xs × (test a ≡ true)) → (b : Bool) → test x ≡ b
        → IsAmong a (if b then x ∷ filter test xs else filter test xs)
        → ((x ≡ a) ⊎ IsAmong a xs) × (test a ≡ true)
    on further true is (inl here) = (inl here, subst (λ y. test y ≡ true) here is)
    on further true is (inr there) = let f = further there in (inr f.0, f.1)
    on further false is there = let f = further there in (inr f.0, f.1)

pub filter_keeps : {A : Type 0} (test : A → Bool) (xs : List A) (a : A) → IsAmong a xs → test a ≡ true
    → IsAmong a (filter test xs)
filter_keeps test [] a h passes = absurd h
filter_keeps test (x ∷ xs) a h passes = on (filter_keeps test xs a) (test x) refl h
  where
    on : (IsAmong a xs → test a ≡ true → IsAmong a (filter test xs)) → (b : Bool) → test x ≡ b
        → (x ≡ a) ⊎ IsAmong a xs → IsAmong a (if b then x ∷ filter test xs else filter test xs)
    on further true is (inl here) = inl here
    on further true is (inr there) = inr (further there passes)
    on further false is (inl here) =
        absurd (let e : false ≡ true = sym is ∙ (ap test here ∙ passes) in cc)
    on further false is (inr there) = further there passes

pub none_among : {A : Type 0} (xs : List A) (a : A) → (length xs == 0) ≡ true → IsAmong a xs → ⊥
none_among [] a none h = h
none_among (x ∷ xs) a none h = let e : length (x ∷ xs) ≡ 0 = eqb-true _ 0 none in omega arith
