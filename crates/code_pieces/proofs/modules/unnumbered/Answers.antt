use Rattle.std.proofs.Common.{Err, ap, arith}
use Rattle.module_builder.specs.declared.fault.GenFault.TheVariants.{Invalid}
use Rattle.code_pieces.specs.PieceViews.{pieces_of}
use Rattle.code_pieces.proofs.Faults.{handed_on}
use Rattle.code_pieces.proofs.ModuleLaws.{count_labels}
use Rattle.code_pieces.proofs.modules.unnumbered.Goals as goal

pub returns-in_err-end-clause-invalid : goal.returns-in_err-end-clause-invalid
returns-in_err-end-clause-invalid c = λ e well.
    let fault = handed_on c.from_residual-in_err-end.result c.in_err-end.field-0.0 Invalid
    c.from_residual-in_err-end.ensures.1 e in
    let count = count_labels c.in_ok-code.code (pieces_of c.args.pieces.now) c.args.labels c.in_ok-code.ensures.ok in
    c.in_err-end.ensures.invalid (ap Err fault) (omega (arith, count))
