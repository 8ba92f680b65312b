use Rattle.std.proofs.Common.{◌≡◌, subst, sym}
use Rattle.module_format.specs.Contents.{Contents}
use Rattle.module_format.specs.Keeping.{Format}
use Rattle.certified_worlds.specs.Certified.{IsCertified}
use Rattle.verifier.specs.Headline.{RunsWell}
use Rattle.host_library.specs.Failures.{IsNoRefusal}
use Rattle.host_library.specs.Files.{IsCertifiedFile}
use Rattle.host_library.specs.Events.{IsNoEvent}
use Rattle.host_library.specs.Replays.{HasReplayed}
use Rattle.host_library.proofs.Refused.{refused, only_memory}
use Rattle.host_library.proofs.Unread.{unread, unread_for_memory}
use Rattle.host_library.proofs.Replayed.{answered, no_refusal}
use Rattle.host_library.proofs.replaying.run_of.Goals as goal

pub returns-in_err-module-clause-answer : goal.returns-in_err-module-clause-answer
returns-in_err-module-clause-answer c =
    unread c.args.bytes.now
    (λ index. IsCertifiedFile c.args.bytes.now (λ m. IsNoEvent c.args.events.now index)) _ c.in_err-module.field-0.0
    c.in_err-module.ensures.exact c.in_err-module.ensures.refused c.from_residual.result c.from_residual.ensures.1

pub returns-in_err-module-clause-certified : goal.returns-in_err-module-clause-certified
returns-in_err-module-clause-certified c m format certified =
    unread_for_memory IsNoRefusal tt c.in_err-module.field-0.0 (c.in_err-module.ensures.only m format)
    c.from_residual.result c.from_residual.ensures.1

pub returns-in_err-verified-clause-answer : goal.returns-in_err-verified-clause-answer
returns-in_err-verified-clause-answer c =
    refused c.args.bytes.now c.in_ok-module.module
    (λ index. IsCertifiedFile c.args.bytes.now (λ m. IsNoEvent c.args.events.now index)) c.in_ok-module.ensures.found
    _ _ c.in_err-verified.ensures.refuses c.from_residual-in_err-verified.result
    c.from_residual-in_err-verified.ensures.1

pub returns-in_err-verified-clause-certified : goal.returns-in_err-verified-clause-certified
returns-in_err-verified-clause-certified c m format certified =
    only_memory IsNoRefusal tt c.in_ok-module.module
    (subst IsCertified (sym (c.in_ok-module.ensures.only m format)) certified) c.not_both.ensures _
    c.in_err-verified.ensures.refuses c.from_residual-in_err-verified.result
    c.from_residual-in_err-verified.ensures.1

pub returns-clause-answer : goal.returns-clause-answer
returns-clause-answer c =
    let module_is = sym c.in_ok-verified.ensures.accepts.0 in
    answered (λ m run. HasReplayed m c.args.events.now run.report (λ sent. run.sent.items ≡ sent))
    (IsNoEvent c.args.events.now) c.args.bytes.now c.in_ok-verified.verified
    (subst (λ (m : Contents). Format c.args.bytes.now m) module_is c.in_ok-module.ensures.found)
    (subst IsCertified module_is c.in_ok-verified.ensures.accepts.1)
    (subst RunsWell module_is c.in_ok-verified.ensures.headline)
    c.replayed_over.result c.replayed_over.ensures

pub returns-clause-certified : goal.returns-clause-certified
returns-clause-certified c m format certified =
    no_refusal (λ m run. HasReplayed m c.args.events.now run.report (λ sent. run.sent.items ≡ sent))
    (IsNoEvent c.args.events.now) c.in_ok-verified.verified c.replayed_over.result c.replayed_over.ensures
