-- The lowest number of rules that are checked one by one.
use Rattle.std.proofs.Common.{◌≡◌, ℕ, min, Bool, true, false, Option, Some, None, inl, inr, refl}
use Rattle.std.proofs.Common.{arith, subst, sym, ◌⊎◌}
use Rattle.std.proofs.lemmas.Bool.{cases_lt}
use Rattle.program_uses.specs.Lowest.{IsLowest, lower, told_unless}

pub none_broken : {Breaks : ℕ → Type 0} → ((n : ℕ) → Breaks n → ⊥) → IsLowest Breaks None
none_broken h = record { broken = tt; least = h }

pub lowest_test : (holds : Bool) (number : ℕ)
    → IsLowest (λ n. (holds ≡ false) × (n ≡ number)) (told_unless holds number)
lowest_test true number = record { broken = tt; least = λ n x. absurd (let k = x.0 in cc) }
lowest_test false number = record { broken = (refl, refl); least = λ n x. let k = x.1 in omega arith }

pub lowest_both : {P Q : ℕ → Type 0} (a b : Option ℕ) → IsLowest P a → IsLowest Q b
    → IsLowest (λ n. P n ⊎ Q n) (lower a b)
lowest_both None None x y = record {
  broken = tt;
  least = λ n h. elim h [ inl p ↦ x.least n p | inr q ↦ y.least n q ];
}
lowest_both None (Some k) x y = record {
  broken = inr y.broken;
  least = λ n h. elim h [ inl p ↦ absurd (x.least n p) | inr q ↦ y.least n q ];
}
lowest_both (Some m) None x y = record {
  broken = inl x.broken;
  least = λ n h. elim h [ inl p ↦ x.least n p | inr q ↦ absurd (y.least n q) ];
}
lowest_both {P} {Q} (Some m) (Some k) x y = record {
  broken = elim (cases_lt m k) [
    | inl less ↦ (let e : m ≡ min m k = omega arith in inl (subst P e x.broken))
    | inr more ↦ (let e : k ≡ min m k = omega arith in inr (subst Q e y.broken))
  ];
  least = λ n h. elim h [ inl p ↦ (let l = x.least n p in omega arith) | inr q ↦ (let l = y.least n q in omega arith) ];
}

pub lowest_as : {P Q : ℕ → Type 0} {told : Option ℕ} → ((n : ℕ) → P n → Q n) → ((n : ℕ) → Q n → P n)
    → IsLowest P told → IsLowest Q told
lowest_as {told = None} there back x = record { broken = tt; least = λ n q. x.least n (back n q) }
lowest_as {told = Some m} there back x = record { broken = there m x.broken; least = λ n q. x.least n (back n q) }

pub told_as : {P : ℕ → Type 0} {a b : Option ℕ} → a ≡ b → IsLowest P a → IsLowest P b
told_as {P = P} e x = subst (IsLowest P) e x

-- what is reported of two rules that are checked one after the other
pub lowest_of : {P Q : ℕ → Type 0} {a b told : Option ℕ} → told ≡ lower a b → IsLowest P a → IsLowest Q b
    → IsLowest (λ n. P n ⊎ Q n) told
lowest_of {a = a} {b = b} e x y = told_as (sym e) (lowest_both a b x y)

-- the same rule of the same thing
pub lowest_at : {A : Type 0} (Breaks : A → ℕ → Type 0) {a b : A} {told : Option ℕ} → a ≡ b → IsLowest (Breaks a) told
    → IsLowest (Breaks b) told
lowest_at Breaks {told = told} e x = subst (λ a. IsLowest (Breaks a) told) e x

-- of two things
pub lowest_at2 : {A B : Type 0} (Breaks : A → B → ℕ → Type 0) {a b : A} {c d : B} {told : Option ℕ} → a ≡ b → c ≡ d
    → IsLowest (Breaks a c) told → IsLowest (Breaks b d) told
lowest_at2 Breaks {a = a} {d = d} e f x = lowest_at (λ y. Breaks y d) e (lowest_at (Breaks a) f x)
