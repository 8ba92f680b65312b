use Rattle.std.proofs.Common.{rules, arith, pos, ◌+ℤ◌, SFits, refl, sym, ap, ◌∙◌}
use Rattle.std.proofs.lemmas.Int.{ints, to_z-of_z}
use Rattle.std.specs.Int.{w64}
use Rattle.states.specs.declared.known.WordFact.{WordFact}
use Rattle.states.specs.declared.known.WordFact.TheVariants.{Alone}
use Rattle.states.specs.State.{entry_fact}
use Rattle.states.specs.Below.{says}
use Rattle.states.specs.Frames.{frame_facts}
use Rattle.states.proofs.Comparisons.{ahead-falls}
use Rattle.states.proofs.Entering.{held-past, held-word}
use Rattle.states.proofs.NextWords.{next-fits}
use Rattle.states.proofs.frame.Frame.words_hold.Goals as goal

pub returns-then-end-passed : goal.returns-then-end-passed
returns-then-end-passed c = λ yes is_base k l h.
    held-past (entry_fact c.args.self.now.row.now) (frame_facts c.args.self.now) c.args.base.now c.loop-word.rest.now
    c.past_saying-passed.result.row.now c.args.entry.now _ _ c.past_saying-passed.result.word
    c.loop-word.invariant.so_far c.loop-word.invariant.same c.past_saying-passed.ensures is_base k l
    (omega (arith, ints, c.if-end-passed.true, c.end_of-end.ensures.value))

pub loop-word-preserved : goal.loop-word-preserved
loop-word-preserved c =
    let said = entry_fact c.args.self.now.row.now in
    let facts = frame_facts c.args.self.now in
    let entry = c.args.entry.now in
    let passed = c.past_saying-passed.result.word in
    let ahead = c.past_saying-passed.ensures.ahead in
    let begun = c.loop-word.invariant.ahead in
    let near = c.end_of-end.ensures.near in
    let fits : SFits w64 passed = search rules in
    let next_fits = next-fits passed fits (omega (arith, ints, near)) in
    let said_at = rw (to_z-of_z w64 passed fits) at c.fact_at.ensures.value in
    let held =
    held-past said facts c.args.base.now c.loop-word.rest.now c.past_saying-passed.result.row.now entry _ _ passed
    c.loop-word.invariant.so_far c.loop-word.invariant.same c.past_saying-passed.ensures in
    rw (to_z-of_z w64 passed fits, to_z-of_z w64 (passed +ℤ pos 1) next_fits)
    (record {
      ahead = omega (arith, ints, ahead, begun);
      apart = c.past_saying-passed.ensures.apart;
      same = λ k l. c.past_saying-passed.ensures.same k (omega (arith, ints))
          ∙ c.loop-word.invariant.same k (omega (arith, ints, ahead));
      so_far = held-word said facts c.args.base.now entry passed (passed +ℤ pos 1) held
          (ap (λ (f : WordFact). says f (Alone entry.fact)) (sym said_at)
          ∙ (sym c.says.ensures ∙ c.if-not-says.false)) refl;
    })

pub loop-word-smaller : goal.loop-word-smaller
loop-word-smaller c =
    let passed = c.past_saying-passed.result.word in
    let ahead = c.past_saying-passed.ensures.ahead in
    let near = c.end_of-end.ensures.near in
    let value = c.end_of-end.ensures.value in
    let fits : SFits w64 passed = search rules in
    let next_fits = next-fits passed fits (omega (arith, ints, near)) in
    rw (to_z-of_z w64 passed fits, to_z-of_z w64 (passed +ℤ pos 1) next_fits)
    (ahead-falls _ (passed +ℤ pos 1) (omega (arith, ints, ahead)) (omega (arith, ints, near, value)))
