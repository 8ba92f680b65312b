use Rattle.std.proofs.Common.{rules, arith, SFits}
use Rattle.std.proofs.lemmas.Int.{ints, to_z-of_z}
use Rattle.std.specs.Int.{w64}
use Rattle.states.proofs.CutEntries.{entry-passed}
use Rattle.states.proofs.cutting.cut_words.Goals as goal

pub loop-word-preserved : goal.loop-word-preserved
loop-word-preserved c =
    let end = c.in_ok-run.run'.end in
    let fits : SFits w64 end = search rules in
    let ahead = c.in_ok-run.ensures.ahead in
    let begun = c.loop-word.invariant.begun in
    rw (to_z-of_z w64 end fits)
    (record {
      order = c.in_ok-run.ensures.order;
      begun = omega (arith, ints, ahead, begun);
      within = c.in_ok-run.ensures.within;
      cuts = λ intervals row later cut.
          c.in_ok-run.ensures.cut intervals row later (c.loop-word.invariant.cuts intervals row later cut);
    })

pub returns-clause-cut : goal.returns-clause-cut
returns-clause-cut c =
    let all = c.loop-word-test.false in
    let end = c.end_of-end.ensures.value in
    let within = c.loop-word.invariant.within in
    entry-passed c.args.side c.args.entry.now c.args.pieces.now.items c.loop-word.pieces.items c.args.intervals.now
    c.loop-word.left.now _ c.requires.alone (omega (arith, ints, all, end, within)) c.loop-word.invariant.cuts
