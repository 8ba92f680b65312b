-- What tests of two numbers tell, and which numbers pass them.
use Rattle.std.proofs.Common.{◌≡◌, ℕ, ◌<◌, ℤ, pos, negsuc, ◌≤ℤ◌, ◌<ℤ◌, true, false, eqb, int_le, int_lt, refl, arith}
use Rattle.std.proofs.lemmas.Bool.Decides.{nat_tests}
use Rattle.std.proofs.lemmas.Int.{ints}

-- A number equals itself.
pub eqb-self : (n : ℕ) → eqb n n ≡ true
eqb-self n = grind (arith, nat_tests)

-- A number does not equal one that is greater.
pub lt-eqb : (a b : ℕ) → a < b → eqb a b ≡ false
lt-eqb a b h = grind (arith, nat_tests)

-- A number does not equal one that is less.
pub gt-eqb : (a b : ℕ) → b < a → eqb a b ≡ false
gt-eqb a b h = grind (arith, nat_tests)

-- Two numbers are equal in either order.
pub eqb_comm : (a b : ℕ) → eqb a b ≡ eqb b a
eqb_comm a b = grind (arith, nat_tests)

-- A number that passes the test is at most the other.
pub int_le-true : (a b : ℤ) → int_le a b ≡ true → a ≤ℤ b
int_le-true a b e = grind (arith, ints)

-- A number that fails it is greater.
pub int_le-false : (a b : ℤ) → int_le a b ≡ false → b <ℤ a
int_le-false a b e = grind (arith, ints)

-- A number that passes the test is less than the other.
pub int_lt-true : (a b : ℤ) → int_lt a b ≡ true → a <ℤ b
int_lt-true a b e = grind (arith, ints)

-- A number that fails it is at least the other.
pub int_lt-false : (a b : ℤ) → int_lt a b ≡ false → b ≤ℤ a
int_lt-false a b e = grind (arith, ints)

-- A number passes the test if it is at most the other.
pub le-int_le : (a b : ℤ) → a ≤ℤ b → int_le a b ≡ true
le-int_le a b h = grind (arith, ints)

-- A number fails it if it is greater.
pub lt-int_le : (a b : ℤ) → b <ℤ a → int_le a b ≡ false
lt-int_le a b h = grind (arith, ints)

-- A number passes the test if it is less than the other.
pub lt-int_lt : (a b : ℤ) → a <ℤ b → int_lt a b ≡ true
lt-int_lt a b h = grind (arith, ints)

-- A number fails it if it is at least the other.
pub le-int_lt : (a b : ℤ) → b ≤ℤ a → int_lt a b ≡ false
le-int_lt a b h = grind (arith, ints)

-- An integer that is not negative is a natural number.
pub pos_from : (z : ℤ) → pos 0 ≤ℤ z → (n : ℕ) × (z ≡ pos n)
pos_from (pos n) h = (n, refl)
pos_from (negsuc n) h = absurd (omega (arith, ints))
