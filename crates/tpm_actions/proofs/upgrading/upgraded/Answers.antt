use Rattle.std.proofs.lemmas.Result.{err_from_is_err_and}
use Rattle.tpm_actions.proofs.UnreadFiles.{malformed}
use Rattle.tpm_actions.proofs.upgrading.upgraded.Goals as goal

pub returns-in_err-file : goal.returns-in_err-file
returns-in_err-file c =
    let made = err_from_is_err_and c.from_residual.result c.from_residual.ensures.1 in
    rw (made.1, made.2) (malformed c.args.bytes.now c.in_err-file.field-0.0 c.in_err-file.ensures.exact
    c.in_err-file.ensures.refused)
