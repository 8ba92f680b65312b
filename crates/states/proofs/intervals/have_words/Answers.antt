use Rattle.std.proofs.Common.{arith, ◌∙◌, to_z}
use Rattle.std.specs.Int.{w64}
use Rattle.std.proofs.lemmas.Int.{ints, clamps}
use Rattle.states.proofs.IntervalWords.{covered-further, neither}
use Rattle.states.proofs.intervals.have_words.Goals as goal

pub returns-then-next-word-clause-no : goal.returns-then-next-word-clause-no
returns-then-next-word-clause-no c = λ _.
    let here = c.stretch_from-here.ensures in
    let there = c.stretch_from-there.ensures in
    let word = to_z w64 c.loop-word.word-bits in (
      word,
      omega (arith, ints),
      omega (arith, ints),
      neither c.args.intervals.now c.args.others.now c.loop-word.ones.now c.loop-word.rest.now word
          (c.loop-word.invariant.same word (omega (arith, ints)))
          (c.loop-word.invariant.same_others word (omega (arith, ints)))
          (here.outside (omega (arith, ints, clamps))) (there.outside (omega (arith, ints, clamps))),
    )

pub loop-word-preserved : goal.loop-word-preserved
loop-word-preserved c =
    let here = c.stretch_from-here.ensures in
    let there = c.stretch_from-there.ensures in
    let before = c.loop-word.invariant in
    record {
      begins = let low = before.begins in omega (arith, ints, low);
      order = here.order;
      others = there.order;
      same = λ k l. here.later k (omega (arith, ints)) ∙ before.same k (omega (arith, ints));
      same_others = λ k l. there.later k (omega (arith, ints)) ∙ before.same_others k (omega (arith, ints));
      so_far = λ k l h.
          covered-further c.args.intervals.now c.args.others.now c.loop-word.ones.now c.loop-word.rest.now
          c.args.first c.loop-word.word c.stretch_from-here.result.end c.stretch_from-there.result.end k
          (λ j m. before.same j (omega (arith, ints))) (λ j m g. here.within j (omega (arith, ints)) g)
          (λ j m g. before.so_far j (omega (arith, ints)) (omega (arith, ints)))
          (λ j m. before.same_others j (omega (arith, ints))) (λ j m g. there.within j (omega (arith, ints)) g)
          (omega (arith, ints)) (λ past. omega (arith, ints, clamps));
    }
