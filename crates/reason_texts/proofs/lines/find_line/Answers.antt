use Rattle.std.proofs.Common.{◌≡◌, ◌+◌, ◌<◌, length, sym, ◌∙◌, arith}
use Rattle.std.proofs.lemmas.Bool.{eqb-true, eqb-false}
use Rattle.reason_texts.proofs.LinesFound.{found-large, found-small, among-here, among-next, among-none}
use Rattle.reason_texts.proofs.lines.find_line.Goals as goal

pub returns-then-source-gt-MAX_BYTES-clause-found : goal.returns-then-source-gt-MAX_BYTES-clause-found
returns-then-source-gt-MAX_BYTES-clause-found c = sym (found-large c.args.source.now c.args.line c.if-source-gt-MAX_BYTES.true)

pub returns-then-number-line-clause-found : goal.returns-then-number-line-clause-found
returns-then-number-line-clause-found c =
    let here = among-here c.loop-rest.number c.loop-rest.offset c.args.line c.loop-rest.above _
    c.first_line.result.0.now _ c.first_line.ensures.parts c.if-number-line.true in
    sym (found-small c.args.source.now c.args.line c.loop-rest.invariant.small ∙ sym c.loop-rest.invariant.so_far ∙ here)

pub loop-rest-preserved : goal.loop-rest-preserved
loop-rest-preserved c =
    let differs = eqb-false _ _ (sym c.is_empty.ensures ∙ c.loop-rest-test.true) in
    let some : 0 < length c.loop-rest.rest.now = omega arith in
    let fits = c.loop-rest.invariant.offset some in
    let next = c.loop-rest.offset + (length c.first_line.result.0.now + 1) in
    let is_next : next ≡ c.loop-rest.offset + length c.first_line.result.0.now + 1 = omega arith in
    let goes_on = among-next c.loop-rest.number c.loop-rest.offset next c.args.line c.loop-rest.above _
    c.first_line.result.0.now _ c.first_line.ensures.parts c.if-number-line.false is_next in
    record {
      small = c.loop-rest.invariant.small;
      within = omega (arith, c.first_line.ensures.within, fits);
      number = omega (arith, c.loop-rest.invariant.number);
      offset = λ more. omega (arith, c.first_line.ensures.ended more, fits);
      level = c.above_after-above.ensures.level;
      so_far = rw c.above_after-above.ensures.above (sym goes_on ∙ c.loop-rest.invariant.so_far);
    }

pub returns-clause-found : goal.returns-clause-found
returns-clause-found c =
    let none = among-none c.loop-rest.number c.loop-rest.offset c.args.line c.loop-rest.above c.loop-rest.rest.now
    (eqb-true _ _ (sym c.is_empty.ensures ∙ c.loop-rest-test.false)) in
    sym (found-small c.args.source.now c.args.line c.loop-rest.invariant.small ∙ sym c.loop-rest.invariant.so_far ∙ none)
