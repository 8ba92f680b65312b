use Rattle.std.proofs.Common.{◌∙◌, sym}
use Rattle.host_library.proofs.Statuses.{not_refused}
use Rattle.host_library.proofs.tpm_replay.Goals as goal

pub returns-in-Err-clause-refuses_no_certified_module : goal.returns-in-Err-clause-refuses_no_certified_module
returns-in-Err-clause-refuses_no_certified_module c m format certified =
    let statuses = not_refused c.in-Err.failure (c.in-Err.ensures.certified m format certified) in
    (λ e. statuses.0 (sym c.tell.ensures.status ∙ e), λ e. statuses.1 (sym c.tell.ensures.status ∙ e))
