use Rattle.std.proofs.Common.{length, map}
use Rattle.occam_parser.specs.LineViews.{formal_of}
use Rattle.scalar_ranges.specs.Scopes.{known_of}
use Rattle.program_uses.specs.Declaring.{add_formals}
use Rattle.usage_checks.specs.FormalRules.{BreakFormals}
use Rattle.usage_checks.specs.NameRules.{with_entries}
use Rattle.usage_checks.proofs.FaultsInOrder.{walks_told, walks_both}
use Rattle.usage_checks.proofs.telling.Findings.walk_head.Goals as goal

pub returns-in-Ok : goal.returns-in-Ok
returns-in-Ok c =
    let k = known_of c.args.scope.now in
    let fs = map formal_of c.args.formals.now in
    walks_both (λ k. with_entries (add_formals k.entries fs) k)
    (λ k. BreakFormals (length k.entries) c.args.line k.entries fs k.entries)
    (walks_told c.args.self.now c.tell.new.self k c.args.line c.fault_of_sizes.result c.tell.ensures.first
    c.tell.ensures.complete c.fault_of_sizes.ensures) c.walk_formals.ensures
