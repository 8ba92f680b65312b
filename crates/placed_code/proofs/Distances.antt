-- Distances between offsets of code: they are words, and lead from where they are taken to where they are to.
use Rattle.std.proofs.Common.{◌≡◌, ℕ, ◌+◌, ◌-◌, ◌%◌, ◌^◌, ◌<◌, ◌≤◌, pos, FitsSigned, arith}
use Rattle.std.specs.Prelude.{◌-ℤ◌}
use Rattle.std.specs.Int.{w32, cast_unsigned, cast_signed}
use Rattle.std.proofs.lemmas.Int.{ints, of_z-to_z}
use Rattle.machine_state.specs.LocalStep.{address, target, word_of}
use Rattle.module_format.specs.declared.limits.TheConstants.{MAX_LONG_CODE}

-- a distance within code is a word
pub distance_fits : (from to : ℕ) → from ≤ MAX_LONG_CODE → to ≤ MAX_LONG_CODE → FitsSigned w32 (pos to -ℤ pos from)
distance_fits from to a b = omega (arith, ints)

-- so is a number below 2^31
pub number_fits : (n : ℕ) → n < 2 ^ 31 → FitsSigned w32 (pos n)
number_fits n less = omega (arith, ints)

-- from where an instruction ends to a label
pub distance_reaches : (from to : ℕ) → from ≤ MAX_LONG_CODE → to ≤ MAX_LONG_CODE
    → target from (pos to -ℤ pos from) ≡ to
distance_reaches from to a b = omega (arith, ints)

-- back from after a loop to its head
pub distance_goes_back : (head behind : ℕ) → head ≤ MAX_LONG_CODE → behind ≤ MAX_LONG_CODE
    → target behind (word_of ((2 ^ 32 - address (pos behind -ℤ pos head)) % 2 ^ 32)) ≡ head
distance_goes_back head behind a b =
    let back : ℕ = (2 ^ 32 - address (pos behind -ℤ pos head)) % 2 ^ 32 in
    let same : cast_unsigned w32 (cast_signed w32 back) ≡ back = of_z-to_z w32 back (omega arith) in
    omega (arith, ints, same)

-- from where an address is read to what is some bytes after the code's start
pub address_reaches : (start end far : ℕ) → end ≤ far → far < 2 ^ 31
    → ((start + end) % 2 ^ 32 + address (pos (far - end))) % 2 ^ 32 ≡ (start + far) % 2 ^ 32
address_reaches start end far a b = omega (arith, ints)
