-- What stands at a place of a list.
use Rattle.std.proofs.Common.{◌≡◌, ℕ, zero, suc, ◌<◌, Bool, true, false, ◌&&◌, List, [], ◌∷◌, ◌++◌, length, Some, None}
use Rattle.std.proofs.Common.{subst, arith}
use Rattle.std.proofs.lemmas.Bool.{and_parts}
use Rattle.std.specs.Prelude.{slice_get}
use Rattle.std.specs.List.{list_all, AllByRecursion}

-- What holds of all of a list holds of what stands at a place.
pub AllByRecursion_at : {X : Type 0} (P : X → Type 0) (xs : List X) (i : ℕ) (x : X) → AllByRecursion P xs
    → slice_get xs i ≡ Some x → P x
AllByRecursion_at P [] i x h is = absurd (cc)
AllByRecursion_at P (y ∷ xs) zero x h is = let same : y ≡ x = cc in subst P same h.0
AllByRecursion_at P (y ∷ xs) (suc i) x h is = AllByRecursion_at P xs i x h.1 is

-- What stands at a place passes the test that all pass.
pub list_all_at : {X : Type 0} (test : X → Bool) (xs : List X) (i : ℕ) (x : X) → list_all test xs ≡ true
    → slice_get xs i ≡ Some x → test x ≡ true
list_all_at test [] i x all is = absurd (cc)
list_all_at {X} test (y ∷ xs) zero x all is =
    let same : y ≡ x = cc in subst (λ (z : X). test z ≡ true) same (and_parts (test y) (list_all test xs) all).0
list_all_at test (y ∷ xs) (suc i) x all is =
    list_all_at test xs i x (and_parts (test y) (list_all test xs) all).1 is

-- What stands at a place of the first of two lists stands there in both, one after the other.
pub slice_get-append_left : {X : Type 0} (xs ys : List X) (i : ℕ) (x : X) → slice_get xs i ≡ Some x
    → slice_get (xs ++ ys) i ≡ Some x
slice_get-append_left [] ys i x is = absurd (cc)
slice_get-append_left (y ∷ xs) ys zero x is = is
slice_get-append_left (y ∷ xs) ys (suc i) x is = slice_get-append_left xs ys i x is

-- Something stands at each place within a list.
pub slice_get_there : {X : Type 0} (xs : List X) (i : ℕ) → i < length xs → slice_get xs i ≡ None → ⊥
slice_get_there [] i below none = absurd (omega arith)
slice_get_there (x ∷ xs) zero below none = absurd (cc)
slice_get_there (x ∷ xs) (suc i) below none = slice_get_there xs i (omega arith) none
