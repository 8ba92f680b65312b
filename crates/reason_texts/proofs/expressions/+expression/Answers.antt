use Rattle.std.proofs.Common.{sym, ◌∙◌}
use Rattle.std.proofs.lemmas.Result.{err_from_is_err_and}
use Rattle.occam_parser.specs.Terminals.{terminals_of}
use Rattle.reason_texts.specs.Expressions.{past_operand}
use Rattle.reason_texts.proofs.Turns.{more_fails}
use Rattle.reason_texts.proofs.expressions.+expression.Goals as goal

pub past_chain-returns-in_err-rest-2 : goal.past_chain-returns-in_err-rest-2
past_chain-returns-in_err-rest-2 t c =
    let p = err_from_is_err_and c.from_residual-in_err-rest-2.result c.from_residual-in_err-rest-2.ensures.1 in
    rw (p.1, p.2) (sym (more_fails (past_operand c.args.levels) c.args.mark c.loop-turns.turns
    (terminals_of c.loop-turns.rest.now) (terminals_of c.in-Some.after.now) _ c.loop-turns-test.true
    c.in-Some.ensures c.in_err-rest-2.ensures) ∙ c.loop-turns.invariant)
