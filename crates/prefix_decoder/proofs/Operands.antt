-- What one byte does to an operand register of 32 bits.
use Rattle.std.proofs.Common.{◌≡◌, ℕ, ◌+◌, ◌*◌, ◌/◌, ◌^◌, ◌<◌, ℤ, pos, negsuc, ◌<ℤ◌, ◌≤ℤ◌, FitsSigned, w32, true, false}
use Rattle.std.proofs.Common.{cond, eqb, refl, arith, rules}
use Rattle.std.proofs.lemmas.Int.{ints}
use Rattle.prefix_decoder.specs.Functions.{nfix}
use Rattle.prefix_decoder.specs.Operand.{low_nibble, without_low_nibble, complement, IsRegister, with_nibble, prefixed}
use Rattle.prefix_decoder.specs.Operand.{negated, after_prefix}

-- the register at the start of an instruction
pub IsRegister-zero : IsRegister (pos 0)
IsRegister-zero = record { fits = search rules; clear = refl }

-- a natural operand that prefix doesn't shift out of the word
pub prefixed_pos : (n : ℕ) → n < 2 ^ 27 → prefixed (pos n) ≡ pos (16 * n)
prefixed_pos n h = omega (arith, ints)

-- the same for negative prefix
pub negated_pos : (n : ℕ) → n < 2 ^ 27 → negated (pos n) ≡ negsuc (16 * n + 15)
negated_pos n h = grind (arith, ints)

-- a prefix leaves an operand register again
pub IsRegister-prefixed : (e : ℤ) → FitsSigned w32 e → IsRegister (prefixed e)
IsRegister-prefixed e h = record { fits = search rules; clear = grind (arith, ints) }

-- and so does negative prefix
pub IsRegister-negated : (e : ℤ) → FitsSigned w32 e → IsRegister (negated e)
IsRegister-negated e h = record { fits = search rules; clear = grind (arith, ints) }

-- so the register stays one after each prefix byte
pub IsRegister-after : (code : ℕ) (e : ℤ) → FitsSigned w32 e → IsRegister (after_prefix code e)
IsRegister-after code e h =
    elim (eqb code nfix) as (λ b. IsRegister (cond b (negated e) (prefixed e))) [
      | true ↦ IsRegister-negated e h
      | false ↦ IsRegister-prefixed e h
    ]

-- a nibble is below 16
pub low_nibble_below : (e : ℤ) → low_nibble e < 16
low_nibble_below (pos n) = omega arith
low_nibble_below (negsuc n) = omega arith

-- a register with a nibble in its low bits is an operand of 32 bits
pub FitsSigned-with_nibble : (register : ℤ) (n : ℕ)
    → IsRegister register
    → n < 16
    → FitsSigned w32 (with_nibble register n)
FitsSigned-with_nibble (pos m) n r h = search (rules, ints, r.fits, r.clear)
FitsSigned-with_nibble (negsuc m) n r h = search (rules, ints, r.fits, r.clear)

-- the bits above the low nibble fit where the operand does, also of its complement
pub FitsSigned-above : (e : ℤ) → FitsSigned w32 e → FitsSigned w32 (without_low_nibble e)
FitsSigned-above (pos n) h = record { sfits = omega (arith, h.sfits) }
FitsSigned-above (negsuc n) h = record { sfits = omega (arith, h.sfits) }

pub FitsSigned-complement : (e : ℤ) → FitsSigned w32 e → FitsSigned w32 (complement e)
FitsSigned-complement (pos n) h = record { sfits = h.sfits }
FitsSigned-complement (negsuc n) h = record { sfits = h.sfits }

-- the last byte's nibble completes the operand, in each of the three cases
pub alone_is : (e : ℤ) → pos 0 ≤ℤ e → e <ℤ pos 16 → with_nibble (pos 0) (low_nibble e) ≡ e
alone_is (pos n) p q = omega (arith, ints)
alone_is (negsuc n) p q = absurd (omega (arith, ints))

pub above_is : (e : ℤ)
    → pos 16 ≤ℤ e
    → FitsSigned w32 e
    → with_nibble (prefixed (without_low_nibble e)) (low_nibble e) ≡ e
above_is (pos n) p h = rw (prefixed_pos (n / 16) (omega (arith, h.sfits))) (omega (arith, ints))
above_is (negsuc n) p h = absurd (omega (arith, ints))

pub below_is : (e : ℤ)
    → e <ℤ pos 0
    → FitsSigned w32 e
    → with_nibble (negated (without_low_nibble (complement e))) (low_nibble e) ≡ e
below_is (pos n) p h = absurd (omega (arith, ints))
below_is (negsuc n) p h = rw (negated_pos (n / 16) (omega (arith, h.sfits))) (omega (arith, ints))
