use Rattle.scalar_ranges.specs.Scopes.{known_of, meaning_of}
use Rattle.program_uses.specs.Declaring.{add}
use Rattle.usage_checks.specs.NameRules.{with_entries}
use Rattle.usage_checks.proofs.FaultsInOrder.{walks_told, walks_on}
use Rattle.usage_checks.proofs.telling.Findings.walk_name.Goals as goal

pub returns : goal.returns
returns c =
    walks_on (with_entries (add c.args.name.now (meaning_of c.args.meaning)))
    (walks_told c.args.self.now c.tell.new.self (known_of c.args.scope.now) c.args.line c.twice.result
    c.tell.ensures.first c.tell.ensures.complete c.twice.ensures) c.enter.ensures
