use Rattle.std.proofs.Common.{◌≡◌, map, take, option_map}
use Rattle.occam_parser.specs.Views.{expression_of}
use Rattle.scalar_ranges.specs.Scopes.{entries_of, meaning_of}
use Rattle.program_uses.specs.Signatures.{signatures_of, parameters_in}
use Rattle.program_sizes.specs.LineSizes.{capped}
use Rattle.usage_checks.specs.Sizes.{ends_of_actuals}
use Rattle.usage_checks.proofs.array_ends.ends_of_actuals.Given as goal

abbrev pub invariant-loop-place : goal.invariant-loop-place
invariant-loop-place l =
    let ps = parameters_in (signatures_of l.signatures) (option_map meaning_of l.procedure) in
    l.count ≡ capped (ends_of_actuals (entries_of l.scope) ps 0 (map expression_of (take l.place l.actuals)))
