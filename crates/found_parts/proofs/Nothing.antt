-- Where nothing is found.
use Rattle.std.proofs.Common.{◌≡◌, Bool, true, false, cond, List, [], ◌∷◌, Option, Some, None, refl}
use Rattle.std.specs.Prelude.{option_map}
use Rattle.std.specs.Option.{option_or}
use Rattle.std.specs.List.{list_any, list_all}
use Rattle.std.proofs.lemmas.Bool.{and_parts, or_parts}
use Rattle.found_parts.specs.Firsts.{first_of}

-- nothing is found where a test passes
pub found_unless : {A : Type 0} (b : Bool) (x : A) → b ≡ true → cond b None (Some x) ≡ None
found_unless true x e = refl
found_unless false x e = absurd (cc)

-- nothing is found where a test fails
pub found_where : {A : Type 0} (b : Bool) (x : A) → b ≡ false → cond b (Some x) None ≡ None
found_where true x e = absurd (cc)
found_where false x e = refl

pub neither : {A : Type 0} (first second : Option A) → first ≡ None → second ≡ None → option_or first second ≡ None
neither None second e f = f
neither (Some x) second e f = absurd (cc)

-- nothing is found of a list whose members pass a test by which nothing is found
pub none_of : {A B : Type 0} (find : A → Option B) (test : A → Bool) → ((x : A) → test x ≡ true → find x ≡ None)
    → (xs : List A) → list_all test xs ≡ true → first_of find xs ≡ None
none_of find test each [] all = refl
none_of find test each (x ∷ xs) all =
    let parts = and_parts (test x) (list_all test xs) all in
    neither (find x) (first_of find xs) (each x parts.0) (none_of find test each xs parts.1)

-- nothing is found of a list whose members fail a test by which nothing is found
pub none_of_failing : {A B : Type 0} (find : A → Option B) (test : A → Bool)
    → ((x : A) → test x ≡ false → find x ≡ None) → (xs : List A) → list_any test xs ≡ false → first_of find xs ≡ None
none_of_failing find test each [] all = refl
none_of_failing find test each (x ∷ xs) all =
    let parts = or_parts (test x) (list_any test xs) all in
    neither (find x) (first_of find xs) (each x parts.0) (none_of_failing find test each xs parts.1)

pub none_mapped : {A B : Type 0} (f : A → B) (o : Option A) → o ≡ None → option_map f o ≡ None
none_mapped f None e = refl
none_mapped f (Some x) e = absurd (cc)
