use Rattle.std.proofs.Common.{sym, subst, rules, pos, ◌≤ℤ◌}
use Rattle.word_arithmetic.proofs.BitLaws.{all_ones_sign}
use Rattle.word_arithmetic.proofs.ranges.bits.all_ones.Goals as goal

pub returns-clause-value : goal.returns-clause-value
returns-clause-value c = search rules

pub returns-clause-sign : goal.returns-clause-sign
returns-clause-sign c h =
    subst (λ z. pos 0 ≤ℤ z) (sym (returns-clause-value c)) (all_ones_sign c.args.word (search rules) h)
