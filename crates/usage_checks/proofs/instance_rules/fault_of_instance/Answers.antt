use Rattle.std.proofs.Common.{map, sym}
use Rattle.std.proofs.lemmas.List.{length-map}
use Rattle.occam_parser.specs.Views.{expression_of}
use Rattle.scalar_ranges.specs.Scopes.{entries_of}
use Rattle.program_uses.specs.Signatures.{signatures_of, parameters_in}
use Rattle.program_uses.proofs.LowestOfBoth.{lowest_of, lowest_at, lowest_at2}
use Rattle.usage_checks.specs.InstanceRules.{BreaksActuals, IsNotCalled}
use Rattle.usage_checks.proofs.instance_rules.fault_of_instance.Goals as goal

pub returns : goal.returns
returns c =
    let signatures = signatures_of c.args.signatures.now in
    let actuals = map expression_of c.args.actuals.now in
    let found = c.meaning-procedure.ensures in
    lowest_of c.lower.ensures
    (lowest_at2 (IsNotCalled signatures) found (sym (length-map c.args.actuals.now expression_of)) c.not_called.ensures)
    (lowest_at (λ m. BreaksActuals c.args.position (entries_of c.args.scope.now) (parameters_in signatures m) actuals)
    found c.fault_of_actuals.ensures)
