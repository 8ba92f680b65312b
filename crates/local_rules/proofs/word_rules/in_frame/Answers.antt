use Rattle.std.proofs.Common.{rules, sym, arith}
use Rattle.std.proofs.lemmas.Int.{ints, to_z-of_z}
use Rattle.std.specs.Int.{w64}
use Rattle.states.proofs.FrameBounds.{frame-is-small}
use Rattle.local_rules.proofs.word_rules.in_frame.Goals as goal

pub between-requires-clause-low : goal.between-requires-clause-low
between-requires-clause-low c =
    let small = frame-is-small c.args.place.now.module.now c.requires.kept c.args.state.now.context c.in-Some.context
    (sym c.in-Some.ensures) in
    rw (to_z-of_z w64 c.in-Some.context.lo (search rules)) (omega (arith, ints, small.low))

pub between-requires-clause-high : goal.between-requires-clause-high
between-requires-clause-high c =
    let small = frame-is-small c.args.place.now.module.now c.requires.kept c.args.state.now.context c.in-Some.context
    (sym c.in-Some.ensures) in
    rw (to_z-of_z w64 c.in-Some.context.hi (search rules)) (omega (arith, ints, small.high))
