use Rattle.std.proofs.Common.{◌≤◌, length, map, arith, option_map}
use Rattle.std.proofs.lemmas.List.{take_all}
use Rattle.occam_parser.specs.Views.{expression_of}
use Rattle.scalar_ranges.specs.Environments.{item_at}
use Rattle.scalar_ranges.specs.Scopes.{entries_of, meaning_of}
use Rattle.program_uses.specs.Signatures.{signatures_of, parameters_in}
use Rattle.program_uses.proofs.LowestOfBoth.{lowest_at}
use Rattle.usage_checks.specs.InstanceRules.{BreaksOne, BreaksActuals}
use Rattle.usage_checks.proofs.LowestOfMany.{lowest_start, lowest_next}
use Rattle.usage_checks.proofs.instance_rules.fault_of_actuals.Goals as goal

pub loop-place-init : goal.loop-place-init
loop-place-init c =
    let qs = parameters_in (signatures_of c.args.signatures.now) (option_map meaning_of c.args.procedure) in
    lowest_start (λ i. BreaksOne c.args.position (entries_of c.args.scope.now) (item_at i qs)) 0

pub loop-place-preserved : goal.loop-place-preserved
loop-place-preserved c =
    let es = entries_of c.args.scope.now in
    let qs = parameters_in (signatures_of c.args.signatures.now) (option_map meaning_of c.args.procedure) in
    let actual = c.index-actuals-place.result in
    lowest_next (λ i. BreaksOne c.args.position es (item_at i qs)) 0 expression_of c.args.actuals.now
    c.loop-place.place actual actual (omega arith) c.index-actuals-place.is c.lower-found.ensures
    c.loop-place.invariant
    (lowest_at (λ i. BreaksOne c.args.position es (item_at i qs) (expression_of actual)) (omega arith)
    (lowest_at (λ q. BreaksOne c.args.position es q (expression_of actual)) c.parameter_at-parameter.ensures
    c.fault_of_one.ensures))

pub returns : goal.returns
returns c =
    let qs = parameters_in (signatures_of c.args.signatures.now) (option_map meaning_of c.args.procedure) in
    let done : length c.args.actuals.now ≤ c.loop-place.place = omega arith in
    lowest_at (λ xs. BreaksActuals c.args.position (entries_of c.args.scope.now) qs (map expression_of xs))
    (take_all c.loop-place.place c.args.actuals.now done) c.loop-place.invariant
