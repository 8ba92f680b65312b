use Rattle.std.proofs.Common.{rules, arith}
use Rattle.std.proofs.lemmas.Int.{ints}
use Rattle.states.specs.Frames.{frame_facts}
use Rattle.states.proofs.KnownRuns.{passed-more}
use Rattle.states.proofs.frame.Frame.past_run.Goals as goal

pub loop-entry-preserved : goal.loop-entry-preserved
loop-entry-preserved c = λ row passed.
    let facts = frame_facts c.args.self.now in
    let start = c.start_of.ensures.value in
    let begun = c.if-start_of-word.false in
    let last = c.end_of.ensures.value in
    let ends = c.if-run-end_of.false in
    let sum = c.in-Some-checked_add.ensures in
    passed-more facts row c.loop-entry.rest.now c.in-Some.entry.now c.in-Some.later.now c.loop-entry.sum
    c.in-Some-paid_by.cost c.in-Some-checked_add.next (c.loop-entry.invariant row passed) (search rules)
    (c.in-Some-paid_by.ensures facts
    (λ k low high. c.requires k (omega (arith, ints, low, start, begun)) (omega (arith, ints, high, last, ends))))
    (omega (arith, sum))
