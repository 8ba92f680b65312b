-- What is known once a cursor read.
use Rattle.std.proofs.Common.{◌≡◌, ℕ, false, List, Result, Ok, Err, refl, arith}
use Rattle.std.specs.Prelude.{IfOk, Option, Some, None, is_some, is_err}
use Rattle.module_format.specs.declared.fault.ReadError.{ReadError}
use Rattle.module_format.specs.Reading.{Read}
use Rattle.module_format.specs.Taking.{Took, TookAfter}
use Rattle.module_format.proofs.ReadsInSteps.{Has, has_at}

-- what a cursor took that had not failed
pub took_after : {A : Type 0} (reader : List ℕ → Read A) (old : Option ReadError) (bytes : List ℕ) (x : A)
    (new : Option ReadError) (left : List ℕ) → old ≡ None → Took (reader bytes) x new left
    → TookAfter reader old bytes x new left
took_after reader None bytes x new left unfailed took = took
took_after reader (Some e) bytes x new left unfailed took = grind (arith, unfailed)

pub took_all : {A : Type 0} {read : Read A} (x : A) (new : Option ReadError) (left : List ℕ) → new ≡ None
    → read ≡ Ok (x, left)
    → Took read x new left
took_all x None left unfailed e = e
took_all x (Some e) left unfailed h = grind (arith, unfailed)

-- what a cursor took that has not failed
pub took_ok : {A : Type 0} (reader : List ℕ → Read A) (old : Option ReadError) (bytes : List ℕ) (x : A)
    (new : Option ReadError) (left : List ℕ) → new ≡ None → TookAfter reader old bytes x new left
    → (old ≡ None) × (reader bytes ≡ Ok (x, left))
took_ok reader None bytes x None left still took = (refl, took)
took_ok reader None bytes x (Some e) left still took = grind (arith, still)
took_ok reader (Some e) bytes x new left still took = grind (arith, still, took)

-- what is known of all that a reader gives, where the cursor didn't fail
pub took_has : {A : Type 0} {Q : A × List ℕ → Type 0} (reader : List ℕ → Read A) (old : Option ReadError)
    (bytes : List ℕ) (x : A)
    (new : Option ReadError) (left : List ℕ) → new ≡ None → TookAfter reader old bytes x new left
    → Has (reader bytes) Q → Q (x, left)
took_has reader None bytes x None left still took has = has_at (reader bytes) (x, left) has took
took_has reader None bytes x (Some e) left still took has = grind (arith, still)
took_has reader (Some e) bytes x new left still took has = grind (arith, still, took)

-- what is ensured of a call that gave no error
pub when_ok : {X E P : Type 0} (r : Result X E) → is_err r ≡ false → IfOk r (λ _. P) → P
when_ok (Ok x) ok h = h
when_ok (Err e) ok h = grind (arith, ok)

pub is_unfailed : (failure : Option ReadError) → is_some failure ≡ false → failure ≡ None
is_unfailed None h = refl
is_unfailed (Some e) h = grind (arith, h)
