use Rattle.std.proofs.Common.{arith, w32, to_z, of_z}
use Rattle.std.proofs.lemmas.Int.{ints}
use Rattle.small_laws.proofs.Comparisons.{le-int_le}
use Rattle.word_arithmetic.specs.Range.{ends_of}
use Rattle.word_arithmetic.proofs.EndsLaws.{hi_in}
use Rattle.word_arithmetic.proofs.ranges.Range.fits_within.Goals as goal

-- Where the lower end fits, all do exactly if the upper end does, which is a member.
pub returns-then-outer-self-clause-members : goal.returns-then-outer-self-clause-members
returns-then-outer-self-clause-members c =
    let low = c.if-outer-self.true in (
      λ h v m. record { from_lo = omega (arith, ints); to_hi = omega (arith, ints) },
      λ f. let top = f c.args.self.now.hi (hi_in (ends_of c.args.self.now) c.args.self.now.ordered) in
          le-int_le (to_z w32 (of_z w32 c.args.self.now.hi)) (to_z w32 (of_z w32 c.args.outer.hi))
          (omega (arith, ints)),
    )
