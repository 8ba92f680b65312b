use Rattle.std.proofs.Common.{pos, ◌*ℤ◌, ◌^◌, rules, w32, w64, refl, ap, sym, ◌∙◌, ℤ, unsigned_abs, unwrap_or}
use Rattle.word_arithmetic.specs.Range.{ends_of, full, zero_to, fitting, is_not_negative}
use Rattle.word_arithmetic.proofs.EndsLaws.{by_rule, is_range, cond_true, passed_on}
use Rattle.word_arithmetic.proofs.BitLaws.{shift_left_holds}
use Rattle.word_arithmetic.proofs.ranges.Range.shift_left.Goals as goal

pub returns-clause-rule : goal.returns-clause-rule
returns-clause-rule c =
    let r = ends_of c.args.self in
    let s = ends_of c.args.counts in
    let hi = r.hi *ℤ pos (2 ^ unsigned_abs s.hi) in
    let power = λ (x y : ℤ). x *ℤ pos (2 ^ unsigned_abs y) in
    let top = passed_on w32 w64 power r.hi s.hi c.scaled.result
    (search rules) (search rules) (search rules) c.scaled.ensures.value in
    cond_true (is_not_negative r) (unwrap_or (fitting (zero_to hi)) full) full (ends_of c.or_full.result)
    (sym c.is_not_negative.ensures ∙ c.if-not-is_not_negative.false)
    (c.or_full.ensures ∙ ap (λ o. unwrap_or o full) (c.fitting.ensures (zero_to hi) refl top))

pub returns-clause-members : goal.returns-clause-members
returns-clause-members c =
    by_rule (returns-clause-rule c) (shift_left_holds _ _ (search (rules, is_range)) c.requires.from_zero)
