use Rattle.std.proofs.Common.{◌≤ℤ◌, ◌*ℤ◌, ℕ, ℤ, pos, negsuc, sym, subst, arith, to_z, of_z, w32}
use Rattle.std.proofs.lemmas.Int.{ints}
use Rattle.word_arithmetic.proofs.ranges.bits.scaled.Goals as goal

-- a natural number times another is one
natural_product : (z : ℤ) (n : ℕ) → pos 0 ≤ℤ z → pos 0 ≤ℤ (z *ℤ pos n)
natural_product (pos a) n h = omega (arith, ints)
natural_product (negsuc a) n h = absurd h.le

pub returns-clause-sign : goal.returns-clause-sign
returns-clause-sign c =
    let sign = c.requires.sign in
    let natural_result : pos 0 ≤ℤ c.multiplied.result =
    subst (λ z. pos 0 ≤ℤ z) (sym c.multiplied.ensures) (natural_product (to_z w32 (of_z w32 c.args.word))
    c.power_of_two.result (omega (arith, ints))) in
    omega (arith, ints)
