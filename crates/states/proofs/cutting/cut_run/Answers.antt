use Rattle.std.proofs.Common.{rules, arith, sym, subst, ◌∙◌, List, SFits}
use Rattle.std.proofs.lemmas.Int.{ints, to_z-of_z}
use Rattle.std.specs.Int.{w64}
use Rattle.module_format.specs.Rows.{Entry}
use Rattle.states.specs.Cutting.{CutsOn}
use Rattle.states.proofs.CutEntries.{run-skipped, run-kept}
use Rattle.states.proofs.cutting.cut_run.Goals as goal

pub returns-then-not-is_on_side-clause-cut : goal.returns-then-not-is_on_side-clause-cut
returns-then-not-is_on_side-clause-cut c =
    let end = c.end_of.ensures.value in
    let run = rw (to_z-of_z w64 c.args.word c.ranges.word) at c.run_from-run.ensures in
    let within = run.within in
    run-skipped c.args.side c.args.entry.now c.args.pieces.now.items c.args.left.now c.run_from-run.result.rest.now
    c.args.word c.run_from-run.result.end c.run_from-run.result.is_among c.requires.alone c.requires.begun
    run.some (omega (arith, ints, end, within)) run.later
    run.alike (sym c.is_on_side.ensures ∙ c.if-not-is_on_side.true)

pub returns-clause-cut : goal.returns-clause-cut
returns-clause-cut c =
    let end = c.end_of.ensures.value in
    let run = rw (to_z-of_z w64 c.args.word c.ranges.word) at c.run_from-run.ensures in
    let within = run.within in
    let pieces = c.args.pieces.now.items in
    let fits : SFits w64 c.run_from-run.result.end = search rules in
    let piece = rw (to_z-of_z w64 c.args.word c.ranges.word, to_z-of_z w64 c.run_from-run.result.end fits)
    at c.in_ok-piece.ensures in
    subst (λ (further : List Entry). CutsOn c.args.side c.args.entry.now pieces further c.args.left.now
    c.run_from-run.result.rest.now c.args.word c.run_from-run.result.end) (sym c.in_ok-push.ensures)
    (run-kept c.args.side c.args.entry.now pieces c.args.left.now c.run_from-run.result.rest.now
    c.args.word c.run_from-run.result.end c.run_from-run.result.is_among c.requires.alone c.requires.begun
    run.some (omega (arith, ints, end, within)) run.later
    run.alike c.in_ok-piece.piece piece.word piece.end
    piece.fact (sym c.is_on_side.ensures ∙ c.if-not-is_on_side.false))
