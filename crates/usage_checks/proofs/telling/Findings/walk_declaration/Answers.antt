use Rattle.occam_parser.specs.LineViews.{declaration_of}
use Rattle.scalar_ranges.specs.Scopes.{known_of, meaning_of}
use Rattle.usage_checks.proofs.FaultsInOrder.{walks_told}
use Rattle.usage_checks.proofs.DeclarationsWalked.{walks_declared}
use Rattle.usage_checks.proofs.telling.Findings.walk_declaration.Goals as goal

pub returns : goal.returns
returns c =
    let k = known_of c.args.scope.now in
    let line = c.line_of.result in
    walks_declared k (known_of c.walk_all_names.new.scope) c.args.first line (declaration_of c.args.declaration.now)
    (meaning_of c.declared_meaning-meaning.result) c.line_of.ensures c.declared_meaning-meaning.ensures
    (walks_told c.args.self.now c.tell.new.self k line c.fault_of_declaration.result c.tell.ensures.first
    c.tell.ensures.complete c.fault_of_declaration.ensures) c.walk_all_names.ensures
