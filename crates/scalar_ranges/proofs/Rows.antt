-- The program has the outermost entry first, and the definitions have it last.
use Rattle.std.proofs.Common.{◌≡◌, ℕ, suc, ◌≤◌, Bool, true, false, cond, List, [], ◌∷◌, ◌++◌, length}
use Rattle.std.proofs.Common.{Some, None, refl, ap, arith, ◌∙◌, nat_eq, nat_lt}
use Rattle.std.proofs.lemmas.Bool.Decides.{nat_tests}
use Rattle.std.proofs.Math.Dec.{eqb-suc-suc}
use Rattle.small_laws.proofs.Comparisons.{lt-eqb}
use Rattle.scalar_ranges.specs.Entries.{Entry, entry_at}
use Rattle.scalar_ranges.specs.Moves.{outermost, at_number}
use Rattle.scalar_ranges.specs.MoveLaws.{meaning_at}

pub one_longer : {A : Type 0} (ys : List A) (y : A) → length (ys ++ y ∷ []) ≡ suc (length ys)
one_longer [] y = refl
one_longer (x ∷ xs) y = ap suc (one_longer xs y)

-- ---- tests

lt_none : (a : ℕ) → nat_lt a 0 ≡ false
lt_none a = grind (arith, nat_tests)

lt_some : (a : ℕ) → nat_lt 0 (suc a) ≡ true
lt_some a = grind (arith, nat_tests)

lt_suc : (a b : ℕ) → nat_lt (suc a) (suc b) ≡ nat_lt a b
lt_suc a b = grind (arith, nat_tests)

pub eq_none : (a : ℕ) → nat_eq (suc a) 0 ≡ false
eq_none a = grind (arith, nat_tests)

pub eq_some : (a : ℕ) → nat_eq 0 (suc a) ≡ false
eq_some a = grind (arith, nat_tests)

-- ---- the outermost ones

pub cut_none : {A : Type 0} (ys : List A) → outermost 0 ys ≡ []
cut_none [] = refl
cut_none (y ∷ ys) = ap (λ t. cond t (y ∷ ys) (outermost 0 ys)) (lt_none (length ys)) ∙ cut_none ys

cut_by : {A : Type 0} (t : Bool) (count : ℕ) (x : A) (xs : List A) (y : A)
    → outermost (suc count) (xs ++ y ∷ []) ≡ outermost count xs ++ y ∷ []
    → cond t (x ∷ xs ++ y ∷ []) (outermost (suc count) (xs ++ y ∷ [])) ≡ cond t (x ∷ xs) (outermost count xs) ++ y ∷ []
cut_by true count x xs y h = refl
cut_by false count x xs y h = h

pub cut_last : {A : Type 0} (count : ℕ) (ys : List A) (y : A)
    → outermost (suc count) (ys ++ y ∷ []) ≡ outermost count ys ++ y ∷ []
cut_last count [] y = ap (λ t. cond t (y ∷ []) []) (lt_some count)
cut_last count (x ∷ xs) y =
    ap (λ t. cond t (x ∷ xs ++ y ∷ []) (outermost (suc count) (xs ++ y ∷ [])))
    (ap (λ n. nat_lt n (suc count)) (one_longer xs y) ∙ lt_suc (length xs) count)
    ∙ cut_by (nat_lt (length xs) count) count x xs y (cut_last count xs y)

-- ---- one of them

pub at_last : {A : Type 0} (f : A → A) (ys : List A) (y : A) → at_number f 0 (ys ++ y ∷ []) ≡ ys ++ f y ∷ []
at_last f [] y = refl
at_last f (x ∷ xs) y =
    ap (λ t. cond t (f x ∷ xs ++ y ∷ []) (x ∷ at_number f 0 (xs ++ y ∷ [])))
    (ap (λ n. nat_eq n 0) (one_longer xs y) ∙ eq_none (length xs))
    ∙ ap (λ zs. x ∷ zs) (at_last f xs y)

at_by : {A : Type 0} (t : Bool) (f : A → A) (n : ℕ) (x : A) (xs : List A) (y : A)
    → at_number f (suc n) (xs ++ y ∷ []) ≡ at_number f n xs ++ y ∷ []
    → cond t (f x ∷ xs ++ y ∷ []) (x ∷ at_number f (suc n) (xs ++ y ∷ []))
    ≡ cond t (f x ∷ xs) (x ∷ at_number f n xs) ++ y ∷ []
at_by true f n x xs y h = refl
at_by false f n x xs y h = ap (λ zs. x ∷ zs) h

pub at_further : {A : Type 0} (f : A → A) (n : ℕ) (ys : List A) (y : A)
    → at_number f (suc n) (ys ++ y ∷ []) ≡ at_number f n ys ++ y ∷ []
at_further f n [] y = ap (λ t. cond t (f y ∷ []) (y ∷ [])) (eq_some n)
at_further f n (x ∷ xs) y =
    ap (λ t. cond t (f x ∷ xs ++ y ∷ []) (x ∷ at_number f (suc n) (xs ++ y ∷ [])))
    (ap (λ k. nat_eq k (suc n)) (one_longer xs y) ∙ eqb-suc-suc (length xs) n)
    ∙ at_by (nat_eq (length xs) n) f n x xs y (at_further f n xs y)

not_at : {A : Type 0} (t : Bool) (f : A → A) (n : ℕ) (x : A) (xs : List A) → t ≡ false → at_number f n xs ≡ xs
    → cond t (f x ∷ xs) (x ∷ at_number f n xs) ≡ x ∷ xs
not_at true f n x xs is h = absurd (cc)
not_at false f n x xs is h = ap (λ ks. x ∷ ks) h

-- there is no item with a number as large as their count
pub none_at : {A : Type 0} (f : A → A) (n : ℕ) (xs : List A) → length xs ≤ n → at_number f n xs ≡ xs
none_at f n [] least = refl
none_at f n (x ∷ xs) least =
    not_at (nat_eq (length xs) n) f n x xs (lt-eqb (length xs) n (omega arith)) (none_at f n xs (omega arith))

-- what an item means
pub meaning_last : (ys : List Entry) (y : Entry) → meaning_at 0 (ys ++ y ∷ []) ≡ Some y.meaning
meaning_last [] y = refl
meaning_last (x ∷ xs) y =
    ap (λ t. cond t (Some x.meaning) (meaning_at 0 (xs ++ y ∷ [])))
    (ap (λ n. nat_eq n 0) (one_longer xs y) ∙ eq_none (length xs))
    ∙ meaning_last xs y

pub meaning_further : (n : ℕ) (ys : List Entry) (y : Entry) → meaning_at (suc n) (ys ++ y ∷ []) ≡ meaning_at n ys
meaning_further n [] y = ap (λ t. cond t (Some y.meaning) None) (eq_some n)
meaning_further n (x ∷ xs) y =
    λ i. cond ((ap (λ k. nat_eq k (suc n)) (one_longer xs y) ∙ eqb-suc-suc (length xs) n) i) (Some x.meaning)
    (meaning_further n xs y i)

-- an entry itself
pub entry_last : (ys : List Entry) (y : Entry) → entry_at 0 (ys ++ y ∷ []) ≡ Some y
entry_last [] y = refl
entry_last (x ∷ xs) y =
    ap (λ t. cond t (Some x) (entry_at 0 (xs ++ y ∷ [])))
    (ap (λ n. nat_eq n 0) (one_longer xs y) ∙ eq_none (length xs))
    ∙ entry_last xs y

pub entry_further : (n : ℕ) (ys : List Entry) (y : Entry) → entry_at (suc n) (ys ++ y ∷ []) ≡ entry_at n ys
entry_further n [] y = ap (λ t. cond t (Some y) None) (eq_some n)
entry_further n (x ∷ xs) y =
    λ i. cond ((ap (λ k. nat_eq k (suc n)) (one_longer xs y) ∙ eqb-suc-suc (length xs) n) i) (Some x)
    (entry_further n xs y i)
