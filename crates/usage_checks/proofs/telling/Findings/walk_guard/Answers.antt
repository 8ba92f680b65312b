use Rattle.std.proofs.Common.{sym, subst}
use Rattle.occam_parser.specs.LineViews.{place_of, guard_of}
use Rattle.scalar_ranges.specs.Scopes.{entries_of, known_of}
use Rattle.usage_checks.specs.ActionRules.{BreaksGuard}
use Rattle.usage_checks.specs.Following.{after_input, after_guard}
use Rattle.usage_checks.specs.LineRules.{BreaksInput}
use Rattle.usage_checks.specs.NameRules.{with_entries}
use Rattle.program_uses.specs.Telling.{At}
use Rattle.usage_checks.specs.Telling.{Walks}
use Rattle.usage_checks.proofs.FaultsInOrder.{walks_told, walks_then, walks_both, walks_as, on_line, of_line}
use Rattle.usage_checks.proofs.telling.Findings.walk_guard.Goals as goal

pub returns-in-Input : goal.returns-in-Input
returns-in-Input c =
    let k = known_of c.walk_any.new.scope in
    let channel = place_of c.in-Input.channel in
    let target = place_of c.in-Input.target in
    let told = walks_told c.walk_any.new.self c.tell.new.self k c.args.line c.fault_of_input.result c.tell.ensures.first
    c.tell.ensures.complete c.fault_of_input.ensures in
    let input = walks_then (with_entries (after_input target)) told
    (λ i. record { entries = c.after_input.ensures.entries i; blocks = c.after_input.ensures.blocks i }) in
    let both = walks_as (on_line _ _) (of_line _ _) (walks_both (with_entries (after_input target))
    (λ k. At c.args.line (BreaksInput c.args.position k.entries channel target)) c.walk_any.ensures input) in
    subst (λ g. Walks c.args.self.now c.tell.new.self (known_of c.after_input.new.scope)
    (with_entries (after_guard (guard_of g)) (known_of c.args.scope.now))
    (At c.args.line (BreaksGuard c.args.position (entries_of c.args.scope.now) (guard_of g)))) (sym c.in-Input.is) both
