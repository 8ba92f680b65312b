use Rattle.std.proofs.Common.{◌≡◌, ◌<◌, length, arith, ap, sym, ◌∙◌}
use Rattle.std.proofs.lemmas.Bool.{eqb-true, eqb-false}
use Rattle.occam_parser.specs.BlockViews.{process_of, construct_of, all_processes}
use Rattle.occam_parser.proofs.SeenBlocks.{view-Seq}
use Rattle.code_generator.specs.Processes.{is_skip, does_nothing, all_do_nothing}
use Rattle.code_generator.proofs.SkipsSeen.{bare_seen, declaring_seen, some_does}
use Rattle.code_generator.proofs.choices.+nothing.Goals as goal

pub is_skip-returns-then-not-is_empty : goal.is_skip-returns-then-not-is_empty
is_skip-returns-then-not-is_empty t c =
    let differs = eqb-false _ _ (sym c.is_empty.ensures ∙ c.if-not-is_empty.true) in
    let some : 0 < length c.args.process.now.declarations.items = omega arith in
    declaring_seen c.args.process.now some

pub is_skip-returns : goal.is_skip-returns
is_skip-returns t c =
    let same = eqb-true _ _ (sym c.is_empty.ensures ∙ c.if-not-is_empty.false) in
    let none : length c.args.process.now.declarations.items ≡ 0 = omega arith in
    c.does_nothing.ensures ∙ ap (λ x. does_nothing (construct_of x)) c.deref.ensures
    ∙ bare_seen c.args.process.now none

pub does_nothing-returns-in-Seq : goal.does_nothing-returns-in-Seq
does_nothing-returns-in-Seq t c =
    let v = c.in-Seq.processes in
    c.all_do_nothing.ensures ∙ ap (λ ps. all_do_nothing (all_processes ps)) c.deref.ensures.value
    ∙ ap does_nothing (sym (view-Seq v) ∙ ap construct_of (sym c.in-Seq.is))

pub all_do_nothing-returns-then-not-is_skip : goal.all_do_nothing-returns-then-not-is_skip
all_do_nothing-returns-then-not-is_skip t c =
    let p = c.process-item.result in
    some_does c.args.processes.now c.loop-process.process-index p (omega arith)
    (sym (ap (λ q. is_skip (process_of q)) c.process-item.is) ∙ sym c.is_skip.ensures ∙ c.if-not-is_skip.true)
