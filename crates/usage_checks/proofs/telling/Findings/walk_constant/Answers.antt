use Rattle.std.proofs.Common.{refl}
use Rattle.occam_parser.specs.Lines.{Constants}
use Rattle.occam_parser.specs.LineViews.{constant_of}
use Rattle.scalar_ranges.specs.Scopes.{known_of, meaning_of}
use Rattle.usage_checks.proofs.FaultsInOrder.{walks_told, walks_as, only_one, from_one}
use Rattle.usage_checks.proofs.DeclarationsWalked.{walks_declared}
use Rattle.usage_checks.proofs.telling.Findings.walk_constant.Goals as goal

pub returns : goal.returns
returns c =
    let k = known_of c.args.scope.now in
    let constant = c.args.constant.now in
    walks_declared k (known_of c.walk_name.new.scope) 0 constant.line (Constants (constant_of constant))
    (meaning_of c.constant_meaning-meaning.result) refl c.constant_meaning-meaning.ensures
    (walks_told c.args.self.now c.tell.new.self k constant.line c.fault_of_value-found.result c.tell.ensures.first
    c.tell.ensures.complete c.fault_of_value-found.ensures)
    (walks_as (only_one _) (from_one _) c.walk_name.ensures)
