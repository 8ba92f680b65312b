use Rattle.std.proofs.Common.{◌≤◌, length, arith, ap, option_map}
use Rattle.occam_parser.specs.Views.{expression_of}
use Rattle.scalar_ranges.specs.Scopes.{entries_of, meaning_of}
use Rattle.program_uses.specs.Signatures.{signatures_of, parameters_in}
use Rattle.program_uses.specs.Instances.{uses_of_actual}
use Rattle.program_uses.proofs.Adding.{adds_as, gathers_none, gathers_next, gathers_all}
use Rattle.program_uses.proofs.Gathering.{actual_uses, actuals_gathered}
use Rattle.program_uses.proofs.uses.Uses.pass_all.Goals as goal

pub loop-place-init : goal.loop-place-init
loop-place-init c =
    let ps = parameters_in (signatures_of c.args.signatures.now) (option_map meaning_of c.args.procedure) in
    gathers_none (actual_uses c.args.counted (entries_of c.args.scope.now) ps) c.args.self.now

pub loop-place-preserved : goal.loop-place-preserved
loop-place-preserved c =
    let es = entries_of c.args.scope.now in
    let ps = parameters_in (signatures_of c.args.signatures.now) (option_map meaning_of c.args.procedure) in
    let actual = c.index-actuals-place.result in
    gathers_next (actual_uses c.args.counted es ps) c.args.actuals.now c.loop-place.place actual actual (omega arith)
    c.index-actuals-place.is c.loop-place.invariant
    (adds_as (ap (λ p. uses_of_actual c.args.counted es p (expression_of actual)) c.parameter_at.ensures)
    c.pass_actual.ensures)

pub returns : goal.returns
returns c =
    let es = entries_of c.args.scope.now in
    let ps = parameters_in (signatures_of c.args.signatures.now) (option_map meaning_of c.args.procedure) in
    let actuals = c.args.actuals.now in
    let done : length actuals ≤ c.loop-place.place = omega arith in
    adds_as (actuals_gathered c.args.counted es ps actuals)
    (gathers_all (actual_uses c.args.counted es ps) actuals c.loop-place.place done c.loop-place.invariant)
