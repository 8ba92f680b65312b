use Rattle.std.proofs.Common.{option_map, ◌∙◌, ap, arith}
use Rattle.occam_parser.specs.Views.{expression_of}
use Rattle.scalar_ranges.specs.Scopes.{entries_of, meaning_of}
use Rattle.program_uses.specs.Signatures.{signatures_of, parameters_in}
use Rattle.usage_checks.specs.Handing.{handed_by}
use Rattle.usage_checks.proofs.HandedOver.{hands_next}
use Rattle.usage_checks.proofs.handing.fault_of_handing.Goals as goal

pub loop-place-preserved : goal.loop-place-preserved
loop-place-preserved c =
    let es = entries_of c.args.scope.now in
    let qs = parameters_in (signatures_of c.args.signatures.now) (option_map meaning_of c.args.procedure) in
    let actual = c.index-actuals-place.result in
    hands_next es qs c.args.actuals.now c.loop-place.place actual c.handed_by-handed.result c.is_again.result
    (omega arith) c.index-actuals-place.is c.new-before.ensures
    (c.handed_by-handed.ensures ∙ ap (λ q. handed_by es q (expression_of actual)) c.parameter_at.ensures)
    c.is_again.ensures c.told_unless.ensures c.lower-found.ensures c.loop-place.invariant c.remember.ensures
