use Rattle.std.proofs.Common.{rules, arith, sym, ◌∙◌, SFits}
use Rattle.std.proofs.lemmas.Int.{ints, clamps, to_z-of_z}
use Rattle.std.specs.Int.{w64}
use Rattle.states.proofs.IntervalWords.{outside, inside, tail-rises, tail-same}
use Rattle.states.proofs.intervals.run_from.Goals as goal

pub returns-then-word-from-clause-alike : goal.returns-then-word-from-clause-alike
returns-then-word-from-clause-alike c =
    let value = c.min.ensures.value in
    let first = c.from.ensures in
    let fits : SFits w64 c.min.result = search rules in
    rw (to_z-of_z w64 c.min.result fits)
    (λ k l h. sym (c.loop-first.invariant.later k (omega (arith, ints)))
    ∙ outside c.loop-first.rest.now c.in-Some.first.now c.in-Some.later.now (search rules)
    c.loop-first.invariant.order k
    (omega (arith, ints, clamps, value, first)))

pub returns-then-word-from-clause-some : goal.returns-then-word-from-clause-some
returns-then-word-from-clause-some c =
    let value = c.min.ensures.value in
    let some = c.requires.some in
    let ahead = c.if-word-from.true in
    let fits : SFits w64 c.min.result = search rules in
    rw (to_z-of_z w64 c.min.result fits) (omega (arith, ints, clamps, value, some, ahead))

pub returns-then-word-from-2-clause-later : goal.returns-then-word-from-2-clause-later
returns-then-word-from-2-clause-later c = λ k l. c.loop-first.invariant.later k (omega (arith, ints))

pub returns-then-word-from-2-clause-alike : goal.returns-then-word-from-2-clause-alike
returns-then-word-from-2-clause-alike c =
    let value = c.min-then-word-from-2.ensures.value in
    let begun = c.if-word-from.false in
    let first = c.from.ensures in
    let last = c.from-in-Some.ensures in
    let fits : SFits w64 c.min-then-word-from-2.result = search rules in
    rw (to_z-of_z w64 c.min-then-word-from-2.result fits)
    (λ k l h. sym (c.loop-first.invariant.later k (omega (arith, ints)))
    ∙ inside c.loop-first.rest.now c.in-Some.first.now c.in-Some.later.now (search rules) c.loop-first.invariant.order k
    (omega (arith, ints, begun, first)) (omega (arith, ints, clamps, value, last)))

pub returns-then-word-from-2-clause-some : goal.returns-then-word-from-2-clause-some
returns-then-word-from-2-clause-some c =
    let value = c.min-then-word-from-2.ensures.value in
    let some = c.requires.some in
    let ahead = c.if-word-from-2.true in
    let fits : SFits w64 c.min-then-word-from-2.result = search rules in
    rw (to_z-of_z w64 c.min-then-word-from-2.result fits) (omega (arith, ints, clamps, value, some, ahead))

pub loop-first-preserved : goal.loop-first-preserved
loop-first-preserved c = record {
  order = tail-rises c.loop-first.rest.now c.in-Some.first.now c.in-Some.later.now (search rules)
      c.loop-first.invariant.order;
  later = λ k l. tail-same c.loop-first.rest.now c.in-Some.first.now c.in-Some.later.now (search rules)
      c.loop-first.invariant.order c.args.word k (let e = c.from-in-Some.ensures in omega (arith, ints, e))
      (omega (arith, ints)) ∙ c.loop-first.invariant.later k l;
}
