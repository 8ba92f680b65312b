use Rattle.std.proofs.Common.{◌≤◌, length, arith, ap, option_map}
use Rattle.occam_parser.specs.Views.{expression_of}
use Rattle.scalar_ranges.specs.Scopes.{entries_of, meaning_of}
use Rattle.program_uses.specs.Changes.{changed_by_actual}
use Rattle.program_uses.specs.Signatures.{signatures_of, parameters_in}
use Rattle.program_uses.proofs.ChangesFound.{actual_changes, notes_as, notes_first, notes_next, notes_all}
use Rattle.program_uses.proofs.changes.Changes.pass_all.Goals as goal

pub loop-place-init : goal.loop-place-init
loop-place-init c =
    let ps = parameters_in (signatures_of c.args.signatures.now) (option_map meaning_of c.args.procedure) in
    notes_first (actual_changes (entries_of c.args.scope.now) ps) c.args.self.now

pub loop-place-preserved : goal.loop-place-preserved
loop-place-preserved c =
    let es = entries_of c.args.scope.now in
    let ps = parameters_in (signatures_of c.args.signatures.now) (option_map meaning_of c.args.procedure) in
    let actual = c.index-actuals-place.result in
    notes_next (actual_changes es ps) c.args.actuals.now c.loop-place.place actual actual (omega arith)
    c.index-actuals-place.is c.loop-place.invariant
    (notes_as (ap (λ p. changed_by_actual es p (expression_of actual)) c.parameter_at.ensures) c.pass.ensures)

pub returns : goal.returns
returns c =
    let done : length c.args.actuals.now ≤ c.loop-place.place = omega arith in
    notes_all (entries_of c.args.scope.now)
    (parameters_in (signatures_of c.args.signatures.now) (option_map meaning_of c.args.procedure)) c.args.actuals.now
    c.loop-place.place done c.loop-place.invariant
