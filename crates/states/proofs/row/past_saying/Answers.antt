use Rattle.std.proofs.Common.{rules, arith, SFits}
use Rattle.std.proofs.lemmas.Int.{ints, clamps, to_z-of_z}
use Rattle.std.specs.Int.{w64}
use Rattle.states.proofs.Entering.{past-ended, past-more}
use Rattle.states.proofs.row.past_saying.Goals as goal

pub returns-then-end-end_of : goal.returns-then-end-end_of
returns-then-end-end_of c =
    let past = rw (to_z-of_z w64 c.args.word c.ranges.word, to_z-of_z w64 c.args.end c.ranges.end)
    at c.loop-entry.invariant in
    let next_is = c.loop-entry.next-is in
    let within = past.within in
    rw (to_z-of_z w64 c.args.end c.ranges.end)
    (past-more c.args.row.now c.loop-entry.rest.now c.in-Some.entry.now c.in-Some.later.now c.args.word c.args.end
    _ c.args.end c.args.wanted past (search rules) (omega (arith, ints, next_is)) (omega (arith, ints, next_is))
    (λ k l h. omega (arith, ints)) (omega (arith, ints, next_is)) (search rules))

pub loop-entry-preserved : goal.loop-entry-preserved
loop-entry-preserved c =
    let past = rw (to_z-of_z w64 c.args.word c.ranges.word, to_z-of_z w64 c.args.end c.ranges.end)
    at c.loop-entry.invariant in
    let next_is = c.loop-entry.next-is in
    let within = past.within in
    let value = c.max-next.ensures.value in
    let fits : SFits w64 c.max-next.result = search rules in
    rw (
      to_z-of_z w64 c.args.word c.ranges.word,
      to_z-of_z w64 c.args.end c.ranges.end,
      to_z-of_z w64 c.max-next.result fits,
    )
    (past-ended c.args.row.now c.loop-entry.rest.now c.in-Some.entry.now c.in-Some.later.now c.args.word c.args.end
    c.max-next.result c.args.wanted
    (past-more c.args.row.now c.loop-entry.rest.now c.in-Some.entry.now c.in-Some.later.now c.args.word c.args.end
    _ c.max-next.result c.args.wanted past (search rules) (omega (arith, ints, next_is))
    (omega (arith, ints, clamps, value, next_is)) (λ k l h. omega (arith, ints, clamps, value, next_is))
    (omega (arith, ints, clamps, value, next_is)) (search rules))
    (search rules) (omega (arith, ints, clamps, value, next_is)))
