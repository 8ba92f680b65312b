use Rattle.std.proofs.Common.{◌≡◌, ◌∙◌, ap, refl, arith, nat_abs, ◌-ℤ◌, to_z, of_z}
use Rattle.std.proofs.lemmas.Int.{ints}
use Rattle.std.specs.Int.{w64}
use Rattle.call_rules.specs.CallRules.{lent_end}
use Rattle.rulings.proofs.ArgumentsAgree.{touched_told}
use Rattle.call_rules.proofs.lent.Lent.words_touched.Goals as goal

pub returns : goal.returns
returns c =
    let same : to_z w64 (of_z w64 c.word_of_offset-last.result) -ℤ to_z w64 (of_z w64 c.from.result)
    ≡ c.word_of_offset-last.result -ℤ c.first_word.result = omega (arith, ints) in
    touched_told c.args.self.first (lent_end c.args.self) _ c.args.self.first c.word_of_offset-last.result
    c.first_word.result c.abs_diff.result
    (omega (arith, ints)) c.word_of_offset-last.ensures.value refl c.first_word.ensures
    (c.abs_diff.ensures ∙ ap nat_abs same)
