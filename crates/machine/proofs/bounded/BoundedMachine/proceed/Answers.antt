use Rattle.std.proofs.Common.{◌≡◌, Option, Ok, None, Some, subst, rules}
use Rattle.std.proofs.lemmas.Result.{err_from_is_err_and}
use Rattle.link_runs.specs.declared.driving.Progress.{Progress}
use Rattle.machine.specs.Bounding.{StepDone}
use Rattle.machine.proofs.Bounding.{has_not_gone, gone_further, comes_down, comes_to, comes_to_stop}
use Rattle.machine.proofs.bounded.BoundedMachine.proceed.Goals as goal

pub steps-init : goal.steps-init
steps-init g c = has_not_gone c.args.self.now c.requires.0 c.requires.1

pub step-requires : goal.step-requires
step-requires g c = c.steps.invariant.reached

pub steps-preserved : goal.steps-preserved
steps-preserved g c =
    let none : c.in_ok-done.done ≡ None = search rules in
    gone_further c.args.self.now c.steps.self c.step.new.self c.steps.invariant
    (subst (λ (o : Option Progress). StepDone c.steps.self (Ok o) c.step.new.self) none c.in_ok-done.ensures)

pub steps-smaller : goal.steps-smaller
steps-smaller g c =
    let none : c.in_ok-done.done ≡ None = search rules in
    comes_down c.args.self.now c.steps.self c.step.new.self c.steps.invariant
    (subst (λ (o : Option Progress). StepDone c.steps.self (Ok o) c.step.new.self) none c.in_ok-done.ensures)

pub returns-in-Some-clause-proceeds : goal.returns-in-Some-clause-proceeds
returns-in-Some-clause-proceeds g c w shows =
    let some : c.in_ok-done.done ≡ Some c.in-Some.progress = search rules in
    comes_to c.args.self.now c.steps.self c.step.new.self c.steps.invariant w shows c.in-Some.progress
    (subst (λ (o : Option Progress). StepDone c.steps.self (Ok o) c.step.new.self) some c.in_ok-done.ensures)

pub returns-in_err-done-clause-proceeds : goal.returns-in_err-done-clause-proceeds
returns-in_err-done-clause-proceeds g c w shows =
    let p = err_from_is_err_and c.from_residual.result c.from_residual.ensures.1 in
    rw (p.1, p.2) (comes_to_stop c.args.self.now c.steps.self c.step.new.self c.steps.invariant w shows
    c.in_err-done.field-0.0 c.in_err-done.ensures)
