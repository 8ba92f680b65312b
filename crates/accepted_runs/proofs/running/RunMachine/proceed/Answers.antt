use Rattle.std.proofs.Common.{◌≡◌, ◌∙◌, None, Some, ap, arith, rules}
use Rattle.module_format.specs.Contents.{Contents}
use Rattle.machine_state.specs.World.{World}
use Rattle.accepted_runs.specs.Reacting.{progress_by}
use Rattle.accepted_runs.proofs.Proceeding.{has_not_gone, gone_twice, proceeds, gone_further, comes_down}
use Rattle.accepted_runs.proofs.running.RunMachine.proceed.Goals as goal

pub steps-init : goal.steps-init
steps-init c = has_not_gone c.args.self.now

pub returns-in-Some-clause-contents : goal.returns-in-Some-clause-contents
returns-in-Some-clause-contents c =
    let x = c.go_on-reaction.ensures in x.same ∙ (x.gone.same ∙ c.steps.invariant.same)

pub returns-in-Some-clause-proceeds : goal.returns-in-Some-clause-proceeds
returns-in-Some-clause-proceeds c w shows =
    let some : progress_by c.go_on-reaction.result ≡ Some c.in-Some.progress = search rules in
    let x = c.go_on-reaction.ensures in
    let on = gone_twice c.args.self.now c.steps.self x.now c.steps.invariant x.gone in
    proceeds c.args.self.now x.now c.go_on-reaction.new.self c.go_on-reaction.result on x.same x.steps w shows
    (λ (v : World) (never : _). ⊥) c.in-Some.progress some

pub steps-smaller : goal.steps-smaller
steps-smaller c =
    let none : progress_by c.go_on-reaction.result ≡ None = search rules in
    let x = c.go_on-reaction.ensures in
    let on = gone_twice c.args.self.now c.steps.self x.now c.steps.invariant x.gone in
    let less = comes_down c.args.self.now x.now c.go_on-reaction.new.self c.go_on-reaction.result on x.same x.steps
    c.requires.0 c.requires.1 none in
    let more = x.more in
    let budget = ap (λ (m : Contents). m.budget) x.gone.same in
    omega (arith, less, more, budget)

pub steps-preserved : goal.steps-preserved
steps-preserved c =
    let none : progress_by c.go_on-reaction.result ≡ None = search rules in
    let x = c.go_on-reaction.ensures in
    let on = gone_twice c.args.self.now c.steps.self x.now c.steps.invariant x.gone in
    gone_further c.args.self.now x.now c.go_on-reaction.new.self c.go_on-reaction.result on x.same x.steps none
