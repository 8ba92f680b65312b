use Rattle.std.proofs.lemmas.Result.{err_from_is_err_and}
use Rattle.tpm_actions.proofs.programs.debug_module.Goals as goal

pub returns-in_err-ending : goal.returns-in_err-ending
returns-in_err-ending g c =
    let p = err_from_is_err_and c.from_residual.result c.from_residual.ensures.1 in
    rw (p.1, p.2) c.in_err-ending.ensures
