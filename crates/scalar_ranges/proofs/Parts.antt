-- What follows of the parts of a step that went well.
use Rattle.std.proofs.Common.{◌≡◌, ℕ, ℤ, Bool, true, false, cond, Option, Some, None, Result, Ok, Err, IsSomeAnd, refl}
use Rattle.std.specs.Prelude.{option_map, option_and_then}
use Rattle.scalar_ranges.specs.Steps.{and_then, both, both_some, ok_or}

pub both_ok : {A B C : Type 0} (r : Result A ℕ) (s : Result B ℕ) (f : A → B → Result C ℕ) (z : C)
    → both r s f ≡ Ok z → (x : A) × (y : B) × (r ≡ Ok x) × (s ≡ Ok y) × (f x y ≡ Ok z)
both_ok (Ok x) (Ok y) f z e = (x, y, refl, refl, e)
both_ok (Ok x) (Err d) f z e = absurd (cc)
both_ok (Err d) (Ok y) f z e = absurd (cc)
both_ok (Err d) (Err c) f z e = absurd (cc)

pub then_ok : {A B : Type 0} (r : Result A ℕ) (f : A → Result B ℕ) (z : B) → and_then r f ≡ Ok z
    → (x : A) × (r ≡ Ok x) × (f x ≡ Ok z)
then_ok (Ok x) f z e = (x, refl, e)
then_ok (Err d) f z e = absurd (cc)

pub or_ok : {A : Type 0} (n : ℕ) (o : Option A) (z : A) → ok_or n o ≡ Ok z → o ≡ Some z
or_ok n None z e = absurd (cc)
or_ok n (Some x) z e = cc

pub mapped : {A B : Type 0} (f : A → B) (o : Option A) (z : B) → option_map f o ≡ Some z
    → (x : A) × (o ≡ Some x) × (f x ≡ z)
mapped f None z e = absurd (cc)
mapped f (Some x) z e = (x, refl, cc)

pub both_are : {A B C : Type 0} (o : Option A) (p : Option B) (f : A → B → Option C) (z : C)
    → both_some o p f ≡ Some z → (x : A) × (y : B) × (o ≡ Some x) × (p ≡ Some y) × (f x y ≡ Some z)
both_are None p f z e = absurd (cc)
both_are (Some x) None f z e = absurd (cc)
both_are (Some x) (Some y) f z e = (x, y, refl, refl, e)

pub passed_ok : {A : Type 0} (b : Bool) (n : ℕ) (x z : A) → cond b (Ok x) (Err n) ≡ Ok z → (b ≡ true) × (x ≡ z)
passed_ok true n x z e = (refl, cc)
passed_ok false n x z e = absurd (cc)

pub ok_same : {A : Type 0} (x z : A) → ◌≡◌ {A = Result A ℕ} (Ok x) (Ok z) → x ≡ z
ok_same x z e = cc

-- what holds of a value that is there holds of what is made of it
pub then_holds : {A : Type 0} (P : ℤ → Type 0) (Q : A → Type 0) (f : ℤ → Option A) (o : Option ℤ) → IsSomeAnd o P
    → ((x : ℤ) → P x → IsSomeAnd (f x) Q) → IsSomeAnd (option_and_then f o) Q
then_holds P Q f None h g = absurd h
then_holds P Q f (Some x) h g = g x h

pub both_hold : {A : Type 0} (P Q : ℤ → Type 0) (R : A → Type 0) (f : ℤ → ℤ → Option A) (o p : Option ℤ)
    → IsSomeAnd o P → IsSomeAnd p Q → ((x y : ℤ) → P x → Q y → IsSomeAnd (f x y) R) → IsSomeAnd (both_some o p f) R
both_hold P Q R f None p h g k = absurd h
both_hold P Q R f (Some x) None h g k = absurd g
both_hold P Q R f (Some x) (Some y) h g k = k x y h g

pub is_some_of : {A : Type 0} (P Q : A → Type 0) (o : Option A) → IsSomeAnd o P → ((x : A) → P x → Q x)
    → IsSomeAnd o Q
is_some_of P Q None h g = absurd h
is_some_of P Q (Some x) h g = g x h
