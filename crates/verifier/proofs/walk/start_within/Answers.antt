use Rattle.std.proofs.Common.{sym, ◌∙◌, arith}
use Rattle.verifier.proofs.Passing.{none-within, some-within}
use Rattle.verifier.proofs.walk.start_within.Goals as goal

pub returns-then-is_start : goal.returns-then-is_start
returns-then-is_start c =
    sym (some-within c.args.module.now c.args.from c.args.end c.loop-offset.offset c.loop-offset.invariant.from
    (omega (arith, c.loop-offset-test.true, c.loop-offset.invariant.end)) c.loop-offset.invariant.none
    (sym c.is_start.ensures ∙ c.if-is_start.true))

pub returns : goal.returns
returns c =
    sym (none-within c.args.module.now c.args.from c.args.end c.requires.0
    (λ o low high. c.loop-offset.invariant.none o low (omega
    (arith, c.loop-offset-test.false, c.loop-offset.invariant.end))))
