use Rattle.std.proofs.Common.{ap, sym, ◌∙◌, rules, w32}
use Rattle.std.specs.Int.{int_max}
use Rattle.std.proofs.lemmas.Int.{to_z-of_z}
use Rattle.word_arithmetic.specs.Range.{all_ones}
use Rattle.word_arithmetic.proofs.EndsLaws.{passed_on}
use Rattle.word_arithmetic.proofs.ranges.Range.either.Goals as goal

pub returns : goal.returns
returns c value p =
    let top = passed_on w32 w32 int_max c.args.self.hi c.args.other.hi c.max.result
    (search rules) (search rules) (search rules) c.max.ensures.value in
    c.bits.ensures value (all_ones (int_max c.args.self.hi c.args.other.hi)) (search rules)
    (ap all_ones top ∙ sym c.all_ones.ensures.value ∙ sym (to_z-of_z w32 c.all_ones.result (search rules)))
