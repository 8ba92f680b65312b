use Rattle.std.proofs.Common.{◌≡◌, Bool, true, false, cond, Option, Some, None, refl, sym, ap, ◌∙◌}
use Rattle.word_arithmetic.specs.Range.{Ends, ends_of, is_within}
use Rattle.scalar_ranges.specs.Values.{counts}
use Rattle.scalar_ranges.specs.Shifts.{shift_range}
use Rattle.scalar_ranges.proofs.results.shifted_range.Goals as goal

by_test : (b : Bool) (t : Bool) (r : Ends) (o : Option Ends) → b ≡ t → o ≡ cond t (Some r) None
    → o ≡ cond b (Some r) None
by_test b t r o e h = h ∙ ap (λ x. cond x (Some r) None) (sym e)

pub returns-then-fits_within : goal.returns-then-fits_within
returns-then-fits_within c =
    by_test (is_within (ends_of c.args.bits) counts) true
    (shift_range c.args.shift (ends_of c.args.words) (ends_of c.args.bits)) (Some (ends_of c.range.result))
    (ap (is_within (ends_of c.args.bits)) (sym c.counts.ensures) ∙ sym c.fits_within.ensures.rule
    ∙ c.if-fits_within.true)
    (ap Some c.range.ensures)

pub returns-else-fits_within : goal.returns-else-fits_within
returns-else-fits_within c =
    by_test (is_within (ends_of c.args.bits) counts) false
    (shift_range c.args.shift (ends_of c.args.words) (ends_of c.args.bits)) None
    (ap (is_within (ends_of c.args.bits)) (sym c.counts.ensures) ∙ sym c.fits_within.ensures.rule
    ∙ c.if-fits_within.false)
    refl
