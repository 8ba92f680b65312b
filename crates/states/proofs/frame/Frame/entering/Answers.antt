use Rattle.std.proofs.Common.{◌≡◌, arith, ◌+◌, ◌*◌, drop}
use Rattle.std.proofs.lemmas.List.{drop_more}
use Rattle.states.specs.State.{entry_fact}
use Rattle.states.specs.Frames.{frame_facts}
use Rattle.states.proofs.Entering.{walk-into, drop-two}
use Rattle.states.proofs.frame.Frame.entering.Goals as goal

pub loop-i-preserved : goal.loop-i-preserved
loop-i-preserved c = λ row walk.
    let i = c.loop-i.i in
    let base = c.args.base.now in
    let rest = c.args.rest.now in
    let said = entry_fact c.args.self.now.row.now in
    let facts = frame_facts c.args.self.now in
    let two : i * 2 + 1 + 1 ≡ (i + 1) * 2 = omega arith in
    rw (← two)
    (walk-into said facts row (drop (i * 2) base) (drop i rest) _ _ _ (drop (i * 2 + 1 + 1) base)
    (drop (i + 1) rest) _ _
    (c.loop-i.invariant row walk)
    (drop-two base (i * 2) _ _ (omega (arith, c.loop-i-test.true, c.min-len.ensures)))
    (drop_more rest i _ (omega (arith, c.loop-i-test.true, c.min-len.ensures))) c.in-Some.ensures)
