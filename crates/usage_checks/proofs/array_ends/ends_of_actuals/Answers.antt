use Rattle.std.proofs.Common.{◌≡◌, ◌≤◌, length, map, arith, ap, ◌∙◌, option_map}
use Rattle.std.proofs.lemmas.List.{take_all}
use Rattle.occam_parser.specs.Views.{expression_of}
use Rattle.scalar_ranges.specs.Environments.{item_at}
use Rattle.scalar_ranges.specs.Scopes.{entries_of, meaning_of}
use Rattle.program_uses.specs.Signatures.{signatures_of, parameters_in}
use Rattle.program_sizes.specs.LineSizes.{capped}
use Rattle.usage_checks.specs.Sizes.{ends_of_actual, ends_of_actuals}
use Rattle.usage_checks.proofs.EndsAdded.{next_ends}
use Rattle.usage_checks.proofs.array_ends.ends_of_actuals.Goals as goal

pub loop-place-preserved : goal.loop-place-preserved
loop-place-preserved c =
    let es = entries_of c.args.scope.now in
    let ps = parameters_in (signatures_of c.args.signatures.now) (option_map meaning_of c.args.procedure) in
    let i = c.loop-place.place in
    let actual = c.index-actuals-place.result in
    let next = next_ends es ps c.args.actuals.now i actual actual (omega arith) c.index-actuals-place.is in
    let one : c.ends_of_actual.result ≡ capped (ends_of_actual es (item_at i ps) (expression_of actual)) =
    c.ends_of_actual.ensures
    ∙ ap (λ p. capped (ends_of_actual es p (expression_of actual))) c.parameter_at-parameter.ensures in
    omega (arith, next, one)

pub returns : goal.returns
returns c =
    let ps = parameters_in (signatures_of c.args.signatures.now) (option_map meaning_of c.args.procedure) in
    let done : length c.args.actuals.now ≤ c.loop-place.place = omega arith in
    c.loop-place.invariant
    ∙ ap (λ xs. capped (ends_of_actuals (entries_of c.args.scope.now) ps 0 (map expression_of xs)))
    (take_all c.loop-place.place c.args.actuals.now done)
