use Rattle.std.proofs.Common.{◌∙◌, ap}
use Rattle.host_library.specs.Failures.{status_of}
use Rattle.host_library.proofs.tpm_verify.Goals as goal

pub returns-in-Err-clause-refuses_no_certified_module : goal.returns-in-Err-clause-refuses_no_certified_module
returns-in-Err-clause-refuses_no_certified_module c m format certified other =
    c.tell.ensures.status ∙ ap status_of (c.in-Err.ensures.certified m format certified)

pub returns-in-Ok-clause-accepted : goal.returns-in-Ok-clause-accepted
returns-in-Ok-clause-accepted c is =
    let x = c.in-Ok.ensures.answer in
    record {
      contents = x.contents;
      format = x.format;
      certified = x.certified;
      runs_well = x.runs_well;
      holds = x.holds.budget;
    }
