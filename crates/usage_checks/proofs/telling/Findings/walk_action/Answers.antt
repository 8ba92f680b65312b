use Rattle.occam_parser.specs.LineViews.{action_of}
use Rattle.scalar_ranges.specs.Scopes.{known_of}
use Rattle.program_uses.specs.Signatures.{signatures_of}
use Rattle.usage_checks.specs.Following.{after_action}
use Rattle.usage_checks.specs.NameRules.{with_entries}
use Rattle.usage_checks.proofs.FaultsInOrder.{walks_told, walks_then}
use Rattle.usage_checks.proofs.telling.Findings.walk_action.Goals as goal

pub returns : goal.returns
returns c =
    walks_then (with_entries (after_action (signatures_of c.args.signatures.now) (action_of c.args.action.now)))
    (walks_told c.args.self.now c.tell.new.self (known_of c.args.scope.now) c.args.line c.fault_of_action.result
    c.tell.ensures.first c.tell.ensures.complete c.fault_of_action.ensures)
    (λ i. record { entries = c.after_action.ensures.entries i; blocks = c.after_action.ensures.blocks i })
