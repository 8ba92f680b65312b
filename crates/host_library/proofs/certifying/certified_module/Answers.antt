use Rattle.std.proofs.Common.{◌≡◌, refl, subst, sym}
use Rattle.certified_worlds.specs.Certified.{IsCertified}
use Rattle.host_library.specs.declared.failure.HostFailure.TheVariants.{Memory}
use Rattle.host_library.proofs.Refused.{refused, only_memory}
use Rattle.host_library.proofs.Unread.{unread, unread_for_memory}
use Rattle.host_library.proofs.certifying.certified_module.Goals as goal

pub returns-in_err-verify-clause-answer : goal.returns-in_err-verify-clause-answer
returns-in_err-verify-clause-answer c =
    refused c.args.bytes.now c.in_ok-module.module (λ _. ⊥) c.in_ok-module.ensures.found _ _
    c.in_err-verify.ensures.refuses c.from_residual-in_err-verify.result c.from_residual-in_err-verify.ensures.1

pub returns-in_err-verify-clause-certified : goal.returns-in_err-verify-clause-certified
returns-in_err-verify-clause-certified c m format certified =
    only_memory (λ failure. failure ≡ Memory) refl c.in_ok-module.module
    (subst IsCertified (sym (c.in_ok-module.ensures.only m format)) certified) c.not_both.ensures _
    c.in_err-verify.ensures.refuses c.from_residual-in_err-verify.result c.from_residual-in_err-verify.ensures.1

pub returns-in_err-module-clause-answer : goal.returns-in_err-module-clause-answer
returns-in_err-module-clause-answer c =
    unread c.args.bytes.now (λ _. ⊥) _ c.in_err-module.field-0.0 c.in_err-module.ensures.exact
    c.in_err-module.ensures.refused c.from_residual.result c.from_residual.ensures.1

pub returns-in_err-module-clause-certified : goal.returns-in_err-module-clause-certified
returns-in_err-module-clause-certified c m format certified =
    unread_for_memory (λ failure. failure ≡ Memory) refl c.in_err-module.field-0.0
    (c.in_err-module.ensures.only m format) c.from_residual.result c.from_residual.ensures.1

pub returns-clause-answer : goal.returns-clause-answer
returns-clause-answer c = record {
  contents = c.in_ok-module.module;
  format = c.in_ok-module.ensures.found;
  certified = c.in_ok-verify.ensures.accepts.1;
  runs_well = c.in_ok-verify.ensures.headline;
  holds = refl;
}
