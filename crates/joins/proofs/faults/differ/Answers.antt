use Rattle.std.proofs.Common.{◌∙◌, sym, arith}
use Rattle.std.proofs.lemmas.Bool.{not-true, not-false}
use Rattle.std.proofs.lemmas.Grind.{common_steps}
use Rattle.joins.proofs.EndSets.{differ_with, differ_stops}
use Rattle.joins.proofs.faults.differ.Goals as goal

pub returns-then-not-branch : goal.returns-then-not-branch
returns-then-not-branch c =
    sym (differ_stops c.args.ends.now c.loop-end.end-index _ (omega arith)
    (sym (c.loop-end.invariant.there _) ∙ not-false _ (sym c.in_ok-insert.ensures.added ∙ c.if-not-branch.true)))

pub loop-end-preserved : goal.loop-end-preserved
loop-end-preserved c = record {
  there = λ end. grind (arith, common_steps, c.loop-end.invariant.there end);
  apart = differ_with c.args.ends.now c.loop-end.end-index _ (omega arith) c.loop-end.invariant.apart
      (sym (c.loop-end.invariant.there _) ∙ not-true _ (sym c.in_ok-insert.ensures.added ∙ c.if-not-branch.false));
}
