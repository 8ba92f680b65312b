-- Regions and their numbers.
use Rattle.std.proofs.Common.{◌≡◌, ℕ, ◌+◌, ◌^◌, ◌%◌, refl, ap, arith}
use Rattle.std.proofs.lemmas.Bool.{ne_eqb}
use Rattle.module_format.specs.declared.fact.Region.{Region}
use Rattle.module_format.specs.declared.fact.Region.TheVariants.{Frame, Constants, Parameter}
use Rattle.module_format.specs.Regions.{region_number, region_numbered}
use Rattle.module_format.specs.Spelling.{u16_bytes}

pub number_of_numbered : (n : ℕ) → region_number (region_numbered n) ≡ n
number_of_numbered n = grind arith

pub numbered_again : (r : Region) → region_numbered (region_number r) ≡ r
numbered_again Frame = refl
numbered_again Constants = refl
numbered_again (Parameter j) =
    rw (ne_eqb (2 + j) 0 (omega arith), ne_eqb (2 + j) 1 (omega arith)) (ap Parameter (omega arith))

-- a number above the greatest is spelled as what is left of it
pub wrapped_number : (n : ℕ) → u16_bytes (n % 2 ^ 16) ≡ u16_bytes n
unfolding u16_bytes
wrapped_number n = grind arith
