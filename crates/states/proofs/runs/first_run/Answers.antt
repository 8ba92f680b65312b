use Rattle.std.proofs.Common.{rules, arith, SFits, sym, ◌∙◌}
use Rattle.std.proofs.lemmas.Int.{ints, clamps, to_z-of_z}
use Rattle.std.specs.Int.{w64}
use Rattle.states.proofs.Claimed.{no-loop-there}
use Rattle.states.proofs.KnownRuns.{alike-before, alike-within}
use Rattle.states.proofs.runs.first_run.Goals as goal

pub returns-then-word-start_of : goal.returns-then-word-start_of
returns-then-word-start_of c =
    let end = c.min.result in
    let fits : SFits w64 end = search rules in
    let start = c.start_of.ensures.value in
    let same_start = c.start_of-then-word-start_of.ensures.value in
    let begun = c.if-word-start_of.true in
    let some = c.requires.some in
    let value = c.min.ensures.value in
    rw (to_z-of_z w64 end fits)
    (record {
      ahead = omega (arith, ints, clamps, start, same_start, begun, some, value);
      within = omega (arith, ints, clamps, value);
      same = alike-before c.args.row.now c.in-Some.entry.now c.in-Some._later.now c.args.word end c.requires.apart
          (search rules) (omega (arith, ints, clamps, same_start, value));
    })

pub returns : goal.returns
returns c =
    let end = c.min-2.result in
    let fits : SFits w64 end = search rules in
    let start = c.start_of.ensures.value in
    let begun = c.if-word-start_of.false in
    let last = c.end_of.ensures.value in
    let same_last = c.end_of-2.ensures.value in
    let ahead = c.if-end_of-word.false in
    let some = c.requires.some in
    let value = c.min-2.ensures.value in
    rw (to_z-of_z w64 end fits)
    (record {
      ahead = omega (arith, ints, clamps, last, same_last, ahead, some, value);
      within = omega (arith, ints, clamps, value);
      same = alike-within c.args.row.now c.in-Some.entry.now c.in-Some._later.now c.args.word end (search rules)
          (omega (arith, ints, start, begun)) (omega (arith, ints, clamps, same_last, value))
          (sym c.loop_of.ensures ∙ no-loop-there c.loop_of.result (sym c.is_some.ensures ∙ c.if-is_some.false));
    })
