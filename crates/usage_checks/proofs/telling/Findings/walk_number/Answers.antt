use Rattle.std.proofs.Common.{subst}
use Rattle.occam_parser.specs.BlockViews.{procedure_of}
use Rattle.scalar_ranges.specs.Entries.{Procedure}
use Rattle.scalar_ranges.specs.Scopes.{entries_of, known_of}
use Rattle.program_uses.specs.Declaring.{add}
use Rattle.usage_checks.specs.NameRules.{BreaksName, with_entries}
use Rattle.usage_checks.specs.Telling.{Walks}
use Rattle.usage_checks.proofs.telling.Findings.walk_number.Goals as goal

pub returns-in-Some : goal.returns-in-Some
returns-in-Some c =
    let p = procedure_of c.args.proc.now in
    subst (λ n. Walks c.args.self.now c.walk_name.new.self (known_of c.walk_name.new.scope)
    (with_entries (add p.head.name (Procedure n)) (known_of c.args.scope.now))
    (BreaksName 0 p.line p.head.name (entries_of c.args.scope.now))) c.in-Some.ensures c.walk_name.ensures
