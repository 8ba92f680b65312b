use Rattle.std.proofs.Common.{Some}
use Rattle.occam_parser.specs.Views.{expression_of}
use Rattle.scalar_ranges.specs.Scopes.{known_of}
use Rattle.usage_checks.specs.Following.{where_holds}
use Rattle.usage_checks.specs.NameRules.{with_entries}
use Rattle.usage_checks.proofs.FaultsInOrder.{walks_told, walks_then}
use Rattle.usage_checks.proofs.telling.Findings.walk_condition.Goals as goal

pub returns : goal.returns
returns c =
    let told = walks_told c.args.self.now c.tell.new.self (known_of c.args.scope.now) c.args.line
    c.fault_of_condition.result c.tell.ensures.first c.tell.ensures.complete c.fault_of_condition.ensures in
    walks_then (with_entries (where_holds (Some (expression_of c.args.condition.now)))) told
    (λ i. record { entries = c.narrow_by.ensures.entries i; blocks = c.narrow_by.ensures.blocks i })
