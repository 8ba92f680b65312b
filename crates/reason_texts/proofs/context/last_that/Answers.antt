use Rattle.std.proofs.Common.{sym, ◌∙◌}
use Rattle.reason_texts.specs.Contexts.{is_sought}
use Rattle.reason_texts.proofs.LinesAbove.{passes, fewer}
use Rattle.reason_texts.proofs.context.last_that.Goals as goal

pub loop-next-preserved : goal.loop-next-preserved
loop-next-preserved c = record {
  within = fewer _ c.loop-next.next _ _ _ c.in-Some.is c.split_last-next-in-Some.ensures.cases
      c.loop-next.invariant.within;
  so_far = passes (is_sought c.args.sought) _ c.loop-next.next _ _ _ c.in-Some.is
      (sym c.is_sought.ensures ∙ c.if-is_sought.false) c.split_last-next-in-Some.ensures.cases
      c.loop-next.invariant.so_far;
}
