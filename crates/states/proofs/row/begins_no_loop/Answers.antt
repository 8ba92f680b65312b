use Rattle.std.proofs.Common.{rules, arith, true, refl, sym, ◌∙◌}
use Rattle.std.proofs.lemmas.Int.{ints}
use Rattle.states.proofs.RowFacts.{segment-apart}
use Rattle.states.proofs.Entering.{none-is}
use Rattle.states.proofs.LoopPairs.{alone-before, alone-more}
use Rattle.states.proofs.row.begins_no_loop.Goals as goal

pub returns-then-end-start_of : goal.returns-then-end-start_of
returns-then-end-start_of c = λ _ k h.
    let first = c.start_of.ensures.value in
    alone-before c.args.row.now c.loop-entry.rest.now c.in-Some.entry.now c.in-Some.later.now k
    c.loop-entry.invariant.apart (search rules) c.loop-entry.invariant.alone (omega (arith, ints, first))

pub loop-entry-preserved : goal.loop-entry-preserved
loop-entry-preserved c = record {
  apart = segment-apart c.loop-entry.rest.now c.in-Some.entry.now c.in-Some.later.now c.loop-entry.invariant.apart
      (search rules);
  alone = alone-more c.args.row.now c.loop-entry.rest.now c.in-Some.entry.now c.in-Some.later.now (search rules)
      (sym c.loop_of.ensures ∙ none-is c.loop_of.result true (sym c.if-is_some.ensures) refl)
      c.loop-entry.invariant.alone;
}
