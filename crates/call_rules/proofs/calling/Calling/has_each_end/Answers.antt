use Rattle.std.proofs.Common.{◌∙◌, sym, arith}
use Rattle.call_rules.proofs.EndRuns.{all_from, one_fails}
use Rattle.call_rules.proofs.calling.Calling.has_each_end.Goals as goal

pub returns-then-not-has_end : goal.returns-then-not-has_end
returns-then-not-has_end c =
    one_fails c.args.count c.loop-n.n _ (omega arith) (sym c.has_end.ensures ∙ c.if-not-has_end.true)

pub returns : goal.returns
returns c =
    let end = c.loop-n-test.false in
    sym (all_from c.args.count _ (λ i low. c.loop-n.invariant i (omega (arith, end))))
