use Rattle.std.proofs.Common.{arith, sym, subst, ◌∙◌, List}
use Rattle.std.proofs.lemmas.Int.{ints}
use Rattle.module_format.specs.Rows.{Entry}
use Rattle.states.specs.Cutting.{CutsEntry}
use Rattle.states.proofs.CutEntries.{loop-skipped, loop-kept}
use Rattle.states.proofs.cutting.cut_loop.Goals as goal

pub returns-then-not-is_on_side-clause-cut : goal.returns-then-not-is_on_side-clause-cut
returns-then-not-is_on_side-clause-cut c =
    let first = c.start_of-start.ensures.value in
    let last = c.end_of-end.ensures.value in
    let all = c.if-run-end.false in
    loop-skipped c.args.side c.args.entry.now c.args.pieces.now.items c.args.intervals.now
    c.run_from-run.result.rest.now
    (λ k l. c.run_from-run.ensures.later k (omega (arith, ints, first)))
    (λ k l h. c.run_from-run.ensures.alike k (omega (arith, ints, first)) (omega (arith, ints, last, all))
    ∙ c.if-run.false)
    (sym c.is_on_side.ensures ∙ c.if-not-is_on_side.true)

pub returns-clause-cut : goal.returns-clause-cut
returns-clause-cut c =
    let first = c.start_of-start.ensures.value in
    let last = c.end_of-end.ensures.value in
    let all = c.if-run-end.false in
    let pieces = c.args.pieces.now.items in
    subst (λ (further : List Entry). CutsEntry c.args.side c.args.entry.now pieces further c.args.intervals.now
    c.run_from-run.result.rest.now) (sym c.in_ok-push.ensures)
    (loop-kept c.args.side c.args.entry.now pieces c.args.intervals.now c.run_from-run.result.rest.now
    (λ k l. c.run_from-run.ensures.later k (omega (arith, ints, first)))
    (λ k l h. c.run_from-run.ensures.alike k (omega (arith, ints, first)) (omega (arith, ints, last, all))
    ∙ c.if-run.false)
    (sym c.is_on_side.ensures ∙ c.if-not-is_on_side.false))
