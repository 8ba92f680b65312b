use Rattle.std.proofs.Common.{List, map, Err, ap, sym, subst}
use Rattle.std.proofs.lemmas.Result.{err_from_is_err_and}
use Rattle.occam_layout.specs.declared.token.Line.{Line}
use Rattle.occam_parser.specs.Blocks.{rows_of, IsProgram}
use Rattle.occam_parser.specs.BlockViews.{item_of}
use Rattle.compiler.proofs.Refused.{without_module}
use Rattle.compiler.proofs.source.compile.Goals as goal

pub returns-in_err-bytes-clause-refused : goal.returns-in_err-bytes-clause-refused
returns-in_err-bytes-clause-refused c =
    let p = err_from_is_err_and c.from_residual-in_err-bytes.result c.from_residual-in_err-bytes.ensures.1 in
    let checked = c.in_ok-checked.checked in
    rw (p.1, p.2) (without_module c.args.source.now c.in_ok-rows.rows.items (map item_of checked.program.items.items)
    c.in_err-bytes.field-0.0
    c.in_ok-rows.ensures.found
    (subst (λ (ls : List Line). IsProgram (rows_of ls) (map item_of checked.program.items.items)) c.deref.ensures.value
    (subst (λ xs. IsProgram (rows_of c.deref.result.now) (map item_of xs)) (sym c.in_ok-checked.ensures.ok)
    c.in_ok-program.ensures.found))
    checked.unbroken
    (λ is sequential. c.in_err-bytes.ensures.limit (ap Err is) sequential)
    (λ is sequential. c.in_err-bytes.ensures.invalid (ap Err is) sequential))
