use Rattle.std.proofs.Common.{rules, w32, sym, ap, ◌∙◌}
use Rattle.std.proofs.lemmas.Int.{to_z-of_z}
use Rattle.word_arithmetic.specs.Range.{ends_of, full, zero_to, is_not_negative}
use Rattle.word_arithmetic.proofs.EndsLaws.{by_rule, is_range, cond_true, cond_false}
use Rattle.word_arithmetic.proofs.BitLaws.{shift_right_holds}
use Rattle.word_arithmetic.proofs.ranges.Range.shift_right.Goals as goal

pub returns-then-not-is_not_negative-clause-rule : goal.returns-then-not-is_not_negative-clause-rule
returns-then-not-is_not_negative-clause-rule c =
    let r = ends_of c.args.self in
    cond_false (is_not_negative r) (zero_to r.hi) full (ends_of c.full.result)
    (sym c.is_not_negative.ensures ∙ c.if-not-is_not_negative.true) c.full.ensures

pub returns-then-not-is_not_negative-clause-members : goal.returns-then-not-is_not_negative-clause-members
returns-then-not-is_not_negative-clause-members c =
    by_rule (returns-then-not-is_not_negative-clause-rule c) (shift_right_holds _ _ (search (rules, is_range)))

pub returns-clause-rule : goal.returns-clause-rule
returns-clause-rule c =
    let r = ends_of c.args.self in
    cond_true (is_not_negative r) (zero_to r.hi) full (ends_of c.zero_to.result)
    (sym c.is_not_negative.ensures ∙ c.if-not-is_not_negative.false)
    (c.zero_to.ensures ∙ ap zero_to (to_z-of_z w32 r.hi (search rules)))

pub returns-clause-members : goal.returns-clause-members
returns-clause-members c = by_rule (returns-clause-rule c) (shift_right_holds _ _ (search (rules, is_range)))
