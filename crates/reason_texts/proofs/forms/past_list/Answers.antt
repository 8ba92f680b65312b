use Rattle.std.proofs.Common.{sym, ◌∙◌}
use Rattle.std.proofs.lemmas.Result.{err_from_is_err_and}
use Rattle.occam_layout.specs.declared.mark.Mark.TheVariants as mark
use Rattle.occam_parser.specs.Terminals.{terminals_of}
use Rattle.reason_texts.specs.Forms.{past_part}
use Rattle.reason_texts.proofs.Turns.{more_fails}
use Rattle.reason_texts.proofs.forms.past_list.Goals as goal

pub returns-in_err-rest-2 : goal.returns-in_err-rest-2
returns-in_err-rest-2 c =
    let p = err_from_is_err_and c.from_residual-in_err-rest-2.result c.from_residual-in_err-rest-2.ensures.1 in
    rw (p.1, p.2) (sym (more_fails (past_part c.args.part) mark.Comma c.loop-turns.turns
    (terminals_of c.loop-turns.rest.now) (terminals_of c.in-Some.after.now) _ c.loop-turns-test.true
    c.in-Some.ensures c.in_err-rest-2.ensures) ∙ c.loop-turns.invariant)
