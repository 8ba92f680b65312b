use Rattle.std.proofs.Common.{arith, ◌+◌, drop, refl}
use Rattle.std.proofs.lemmas.List.{drop_more}
use Rattle.states.specs.State.{entry_fact}
use Rattle.states.specs.Frames.{frame_facts}
use Rattle.states.proofs.Entering.{walk-pair}
use Rattle.states.proofs.frame.Frame.pair_count.Goals as goal

pub loop-i-preserved : goal.loop-i-preserved
loop-i-preserved c = λ row paid walk.
    let i = c.loop-i.i in
    let base = c.args.base.now in
    let rest = c.args.rest.now in
    walk-pair (entry_fact c.args.self.now.row.now) (frame_facts c.args.self.now) row (drop i base) (drop i rest) _ _
    (drop (i + 1) base) (drop (i + 1) rest) paid (c.loop-i.invariant row paid walk)
    (drop_more base i _ (omega (arith, c.loop-i-test.true, c.min-len.ensures)))
    (drop_more rest i _ (omega (arith, c.loop-i-test.true, c.min-len.ensures))) (c.if-not-is_pair.ensures refl)
