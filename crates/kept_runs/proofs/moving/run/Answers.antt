use Rattle.std.proofs.Common.{◌≡◌, ◌∙◌, None, arith, rules, sym, subst}
use Rattle.accepted_runs.specs.Reacting.{HasMessage}
use Rattle.kept_runs.specs.declared.running_on.RunReport.{RunReport}
use Rattle.kept_runs.specs.declared.running_on.RunStop.TheVariants.{AtLimit}
use Rattle.kept_runs.specs.RunningOn.{has_emitted, stop_by}
use Rattle.kept_runs.proofs.RunningOn.{all_done, comes_nearer, has_message, has_not_stepped, no_less, reached_there}
use Rattle.kept_runs.proofs.RunningOn.{runs_after, stepped_further, stepped_there, stops_as, told_as}
use Rattle.kept_runs.proofs.moving.run.Goals as goal

pub steps-init : goal.steps-init
steps-init c = has_not_stepped c.args.program.now c.args.machine.now c.end_after-end.result c.requires.runs

pub report_of-requires : goal.report_of-requires
report_of-requires c =
    let still =
    stepped_there c.args.program.now c.steps.invariant (search rules) c.in_default.is c.go_on.ensures in
    let more = still.more in
    omega (arith, more, c.executed-start.ensures.value)

pub returns-in_default-clause-runs : goal.returns-in_default-clause-runs
returns-in_default-clause-runs c =
    (stepped_there c.args.program.now c.steps.invariant (search rules) c.in_default.is c.go_on.ensures).runs

pub returns-in_default-clause-reaches : goal.returns-in_default-clause-reaches
returns-in_default-clause-reaches c w on =
    let m = c.args.program.now in
    told_as m c.args.machine.now c.go_on.new.machine c.args.limit w c.report_of.result AtLimit c.executed-start.result
    c.report_of.ensures c.executed-start.ensures.value
    (all_done m c.args.limit (stepped_there m c.steps.invariant (search rules) c.in_default.is c.go_on.ensures)
    (reached_there m c.steps.invariant (search rules) c.in_default.is c.go_on.ensures)
    (omega (arith, c.end_after-end.ensures.low, c.executed-start.ensures.value))
    (λ small. let is = c.end_after-end.ensures.high small in omega (arith, is, c.executed-start.ensures.value)) w on)

pub report_of-requires-in-Some-stop_of : goal.report_of-requires-in-Some-stop_of
report_of-requires-in-Some-stop_of c =
    let more = no_less c.args.program.now c.steps.invariant (search rules) c.in-Some.is c.go_on.ensures in
    omega (arith, more, c.executed-start.ensures.value)

pub returns-in-Some-stop_of-clause-runs : goal.returns-in-Some-stop_of-clause-runs
returns-in-Some-stop_of-clause-runs c =
    runs_after c.args.program.now c.steps.invariant (search rules) c.in-Some.is c.go_on.ensures

pub returns-in-Some-stop_of-clause-message : goal.returns-in-Some-stop_of-clause-message
returns-in-Some-stop_of-clause-message c =
    subst (λ (q : RunReport). HasMessage (has_emitted q.stop) c.go_on.new.machine)
    (sym c.report_of-in-Some-stop_of.ensures)
    (has_message c.args.program.now c.steps.invariant (search rules) c.in-Some.is c.go_on.ensures
    c.in-Some-stop_of.stop (sym c.stop_of.ensures ∙ c.in-Some-stop_of.is))

pub returns-in-Some-stop_of-clause-reaches : goal.returns-in-Some-stop_of-clause-reaches
returns-in-Some-stop_of-clause-reaches c w on =
    let m = c.args.program.now in
    told_as m c.args.machine.now c.go_on.new.machine c.args.limit w c.report_of-in-Some-stop_of.result
    c.in-Some-stop_of.stop c.executed-start.result c.report_of-in-Some-stop_of.ensures c.executed-start.ensures.value
    (stops_as m c.steps.invariant (search rules) c.in-Some.is c.go_on.ensures c.args.limit
    (omega (arith, c.end_after-end.ensures.low, c.executed-start.ensures.value)) w on c.in-Some-stop_of.stop
    (sym c.stop_of.ensures ∙ c.in-Some-stop_of.is))

pub returns-clause-reaches : goal.returns-clause-reaches
returns-clause-reaches c w on =
    let m = c.args.program.now in
    told_as m c.args.machine.now c.steps.machine c.args.limit w c.report_of-2.result AtLimit c.executed-start.result
    c.report_of-2.ensures c.executed-start.ensures.value
    (all_done m c.args.limit c.steps.invariant (omega (arith, c.steps-test.false, c.executed.ensures.value))
    (omega (arith, c.end_after-end.ensures.low, c.executed-start.ensures.value))
    (λ small. let is = c.end_after-end.ensures.high small in omega (arith, is, c.executed-start.ensures.value)) w on)

pub steps-smaller : goal.steps-smaller
steps-smaller c =
    let none : stop_by c.in-Some.reaction ≡ None = search rules in
    comes_nearer c.args.program.now c.steps.invariant (search rules) c.in-Some.is c.go_on.ensures none

pub steps-preserved : goal.steps-preserved
steps-preserved c =
    let none : stop_by c.in-Some.reaction ≡ None = search rules in
    stepped_further c.args.program.now c.steps.invariant (search rules) c.in-Some.is c.go_on.ensures none
