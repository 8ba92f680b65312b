use Rattle.std.proofs.Common.{◌-◌, Err, ap, arith}
use Rattle.module_builder.specs.declared.fault.GenFault.TheVariants.{Invalid}
use Rattle.code_pieces.proofs.Faults.{handed_on}
use Rattle.code_pieces.proofs.NamedLabels.{heads_at}
use Rattle.code_pieces.proofs.saying.said_words.Goals as goal

pub returns-in_err-said-clause-invalid : goal.returns-in_err-said-clause-invalid
returns-in_err-said-clause-invalid c = λ e labels has below few.
    let invalid = handed_on c.from_residual-in_err-said.result c.in_err-said.field-0.0 Invalid
    c.from_residual-in_err-said.ensures.1 e in
    c.in_err-said.ensures.invalid (ap Err invalid) labels has
    (heads_at labels c.args.entries.now (c.loop-number.number - 1) _ (omega arith) below)
