-- Tests that are joined, and tests that pass together.
use Rattle.std.proofs.Common.{◌≡◌, Bool, true, false, cond, ◌||◌, refl, sym}

-- The first two of three tests joined by `||` change places.
pub or_swap : (a b c : Bool) → (a || (b || c)) ≡ (b || (a || c))
or_swap true true c = refl
or_swap true false c = refl
or_swap false b c = refl

-- Two tests that each pass where the other does are one.
pub same_tests : (a b : Bool) → (a ≡ true → b ≡ true) → (b ≡ true → a ≡ true) → a ≡ b
same_tests true b p q = sym (p refl)
same_tests false true p q = q refl
same_tests false false p q = refl

-- A choice of `true` or a second test passes if its first test does.
pub cond_true-first : (a b : Bool) → a ≡ true → cond a true b ≡ true
cond_true-first true b p = refl
cond_true-first false b p = absurd (cc)

-- A choice of `true` or a second test passes if the second test does.
pub cond_true-second : (a b : Bool) → b ≡ true → cond a true b ≡ true
cond_true-second true b p = refl
cond_true-second false b p = p
