use Rattle.std.proofs.Common.{◌∙◌, sym, arith}
use Rattle.call_rules.proofs.WrittenApart.{meets_one, all_apart}
use Rattle.call_rules.proofs.lent.all_are_apart.Goals as goal

pub returns-then-not-is_apart_at : goal.returns-then-not-is_apart_at
returns-then-not-is_apart_at c =
    sym (meets_one c.args.all.now c.loop-number.number (sym c.is_apart_at.ensures ∙ c.if-not-is_apart_at.true))

pub returns : goal.returns
returns c =
    let end = c.loop-number-test.false in
    sym (all_apart c.args.all.now (λ i low. c.loop-number.invariant i (omega (arith, end))))
