use Rattle.std.proofs.Common.{◌≤◌, length, map, arith, ap, ◌∙◌, option_map}
use Rattle.std.proofs.lemmas.List.{take_all}
use Rattle.occam_parser.specs.Views.{expression_of}
use Rattle.scalar_ranges.specs.Environments.{item_at}
use Rattle.scalar_ranges.specs.Scopes.{entries_of, meaning_of}
use Rattle.program_uses.specs.Signatures.{signatures_of, parameters_in}
use Rattle.usage_checks.specs.Following.{receive_if, passed_to, after_actuals}
use Rattle.usage_checks.proofs.ActualsFollowed.{next_actual}
use Rattle.usage_checks.proofs.following.after_actuals.Goals as goal

pub loop-place-preserved : goal.loop-place-preserved
loop-place-preserved c =
    let qs = parameters_in (signatures_of c.args.signatures.now) (option_map meaning_of c.args.procedure) in
    let actual = c.index-actuals-place.result in
    let i = c.loop-place.place in
    let before = c.loop-place.invariant in
    let number = c.passed_to-number.ensures
    ∙ ap (λ q. passed_to q (entries_of c.loop-place.scope) (expression_of actual))
    c.parameter_at-parameter.ensures in
    record {
      entries = c.receive_if.ensures.entries
          ∙ ap (λ n. receive_if n (entries_of c.loop-place.scope)) number
          ∙ ap (λ es. receive_if (passed_to (item_at i qs) es (expression_of actual)) es) before.entries
          ∙ next_actual qs c.args.actuals.now i actual actual (entries_of c.args.scope.now) (omega arith)
          c.index-actuals-place.is;
      blocks = c.receive_if.ensures.blocks ∙ before.blocks;
    }

pub returns-clause-entries : goal.returns-clause-entries
returns-clause-entries c =
    let qs = parameters_in (signatures_of c.args.signatures.now) (option_map meaning_of c.args.procedure) in
    let done : length c.args.actuals.now ≤ c.loop-place.place = omega arith in
    c.loop-place.invariant.entries
    ∙ ap (λ xs. after_actuals qs 0 (map expression_of xs) (entries_of c.args.scope.now))
    (take_all c.loop-place.place c.args.actuals.now done)
