use Rattle.std.proofs.Common.{arith}
use Rattle.std.proofs.lemmas.Int.{ints}
use Rattle.states.specs.Frames.{frame_facts}
use Rattle.states.proofs.Entering.{loop-entered}
use Rattle.states.proofs.frame.Frame.loop_paid.Goals as goal

pub returns : goal.returns
returns c = λ said.
    loop-entered said (frame_facts c.args.self.now) c.args.entry.now c.args.wanted _ _
    c.fact_at.result c.fact_at-2.result c.in_ok-paid.paid c.requires (omega (arith, c.if-entry-ne2.false))
    (omega (arith, ints)) (omega (arith, ints)) c.fact_at.ensures.value c.fact_at-2.ensures.value c.in_ok-paid.ensures
