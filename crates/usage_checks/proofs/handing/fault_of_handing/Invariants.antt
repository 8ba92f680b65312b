use Rattle.std.proofs.Common.{map, take, option_map}
use Rattle.occam_parser.specs.Views.{expression_of}
use Rattle.scalar_ranges.specs.Scopes.{entries_of, meaning_of}
use Rattle.program_uses.specs.Signatures.{signatures_of, parameters_in}
use Rattle.usage_checks.specs.Handing.{handed_all}
use Rattle.usage_checks.proofs.HandedOver.{Hands}
use Rattle.usage_checks.proofs.handing.fault_of_handing.Given as goal

abbrev pub invariant-loop-place : goal.invariant-loop-place
invariant-loop-place l =
    let qs = parameters_in (signatures_of l.signatures) (option_map meaning_of l.procedure) in
    Hands l.initial.before l.before
    (handed_all (entries_of l.scope) qs 0 (map expression_of (take l.place l.actuals))) l.found
