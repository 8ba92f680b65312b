use Rattle.std.proofs.Common.{refl}
use Rattle.std.proofs.lemmas.Result.{err_from_is_err_and}
use Rattle.verifier.proofs.Judging.{accepted_is_certified}
use Rattle.verifier.proofs.ValidContents.{spans}
use Rattle.verifier.proofs.Reporting.{reports}
use Rattle.verifier.proofs.CertifiedRuns.{runs_well}
use Rattle.verifier.proofs.verified.verify.Goals as goal

pub returns-in_err-judge_code-clause-refuses : goal.returns-in_err-judge_code-clause-refuses
returns-in_err-judge_code-clause-refuses c =
    let p = err_from_is_err_and c.from_residual.result c.from_residual.ensures.1 in
    rw (p.1, p.2) (reports c.args.module.now c.judge_code.ensures.kept c.in_err-judge_code.field-0.0
    c.in_err-judge_code.ensures.refuses)

pub invariant_of-result : goal.invariant_of-result
invariant_of-result c = ∣ (
  c.judge_code.ensures.kept,
  accepted_is_certified c.args.module.now
      (spans c.args.module.now c.judge_code.ensures.kept) c.in_ok-judge_code.ensures.accepts,
) ∣₁

pub returns-clause-accepts : goal.returns-clause-accepts
returns-clause-accepts c = (
  refl,
  accepted_is_certified c.args.module.now
      (spans c.args.module.now c.judge_code.ensures.kept) c.in_ok-judge_code.ensures.accepts,
)

pub returns-clause-headline : goal.returns-clause-headline
returns-clause-headline c =
    let m = c.args.module.now in
    let kept = c.judge_code.ensures.kept in
    runs_well m kept (accepted_is_certified m (spans m kept) c.in_ok-judge_code.ensures.accepts)
