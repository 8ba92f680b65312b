use Rattle.std.proofs.Common.{arith, ◌∙◌, sym}
use Rattle.std.proofs.lemmas.Int.{ints}
use Rattle.states.proofs.FrameBounds.{frame-is-small}
use Rattle.state_texts.proofs.frames.push_frame.Goals as goal

pub push_runs-requires-clause-low : goal.push_runs-requires-clause-low
push_runs-requires-clause-low c =
    let small = frame-is-small c.args.module.now c.tables-kept.ensures.kept c.args.state.now.context c.in-Some.context
    (sym c.context.ensures ∙ c.in-Some.is) in
    omega (arith, ints, small.low)
