use Rattle.scalar_ranges.specs.Scopes.{known_of}
use Rattle.usage_checks.proofs.FaultsInOrder.{walks_told}
use Rattle.usage_checks.proofs.telling.Findings.walk_replicator.Goals as goal

pub returns : goal.returns
returns c =
    walks_told c.args.self.now c.tell.new.self (known_of c.args.scope.now) c.args.line c.fault_of_replicator.result
    c.tell.ensures.first c.tell.ensures.complete c.fault_of_replicator.ensures
